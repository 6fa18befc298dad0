-- The names that the proofs of this crate cite, passed on from one place. Declares nothing.
pub use Rattle.std.proofs.lemmas.Grind.{common_steps}
pub use Rattle.std.proofs.Common.{is_none, is_some, slice_index_or, vec_capacity, ◌≢◌}
pub use Rattle.std.specs.List.{All, position_or_len}
pub use Rattle.std.proofs.lemmas.Bool.{eq-eqb, ne_eqb}
pub use Rattle.std.proofs.lemmas.List.{drop_all, take_rest}
pub use Rattle.ed_machine.specs.Steps.{is_stop}
pub use Rattle.ed_machine.specs.declared.turn.Turn.{Turn}
pub use Rattle.ed_machine.specs.declared.turn.Turn.TheVariants.{NoOrder, NoTape, Printed, Stopped, Went}
pub use Rattle.ed_machine.proofs.LeastNumbers.{first_once, first_within}
pub use Rattle.ed_machine.proofs.Names.{add-one, append-nil, unwrap_or, ◌%◌, eqb-true, State, AreObeyed, is_obeyed}
pub use Rattle.ed_machine.proofs.Names.{state_after, stops_of}
unfoldable pub use Rattle.ed_machine.proofs.Names.{step, progress}
pub use Rattle.ed_machine.proofs.Steps.{after_sum, free_sum, next_state, no_step}
pub use Rattle.ed_run.specs.Run.{end_at}
pub use Rattle.ed_syntax.proofs.Kit.{[], ap, append_assoc, arith, Bool, codes, drop, Err, false, if◌then◌else◌, inl}
pub use Rattle.ed_syntax.proofs.Kit.{inr, length, length-append, List, nat_eq, nat_le, None, not, Ok, Option, refl}
pub use Rattle.ed_syntax.proofs.Kit.{rules, Some, subst, suc, sym, take, true, zero, ℕ, ◌++◌, ◌+◌, ◌-◌, ◌<◌, ◌==◌, ◌∙◌}
pub use Rattle.ed_syntax.proofs.Kit.{◌∷◌, ◌≡◌, ◌≤◌, ◌⊎◌, Decides-eqb, nat_tests, err_from_is_err_and, Text, has_end}
pub use Rattle.ed_syntax.proofs.Kit.{HasLines, lines_of, with_byte, without_return}
pub use Rattle.ed_syntax.proofs.SourceLaws.{read_lines_are}
pub use Rattle.ed_io.specs.Bytes.{Gains, GainsPart}
pub use Rattle.ed_io.specs.declared.device.Failed.{Failed}
pub use Rattle.ed_io.proofs.Calls.{gains_more}
pub use Rattle.ed_report.specs.Traces.{is_full}
unfoldable pub use Rattle.ed_report.specs.Traces.{functions_after}
pub use Rattle.ed_report.proofs.Letters.{functions_count, next_functions, no_functions}
pub use Rattle.ed_report.proofs.Texts.{IfOk-told}
pub use Rattle.ed_stepper.specs.Commands.{begins_part, go, is_space, LineSaysCommand, no_part, one_part, one_space}
pub use Rattle.ed_stepper.specs.Inputs.{Input, text_kind_of}
pub use Rattle.ed_stepper.specs.Kept.{AreCheckpoints, IsCheckpoint}
pub use Rattle.ed_stepper.specs.MoveEnds.{blocked_end, end_after, Ends, own_end, stopped_after}
unfoldable pub use Rattle.ed_stepper.specs.MoveEnds.{move_orders}
pub use Rattle.ed_stepper.specs.Private.CommandReading.{bad_from, bad_line, commands_of, line_commands}
pub use Rattle.ed_stepper.specs.Private.CommandReading.{parts_between_spaces, session_command}
pub use Rattle.ed_stepper.specs.Private.Divisions.{after_line, input_of}
pub use Rattle.ed_stepper.specs.Private.Fronts.{line_feed_place}
pub use Rattle.ed_stepper.specs.Private.Growth.{BreaksTrace, Lines, orders_in_full_lines, traced_letters}
pub use Rattle.ed_stepper.specs.ScriptLines.{HasBadLine, IsScript}
pub use Rattle.ed_stepper.specs.Scripts.{after_text_of, is_too_far, left_by, LeftBy, play, writes}
pub use Rattle.ed_stepper.specs.Sessions.{left, Moves, Stand, stands_at}
pub use Rattle.ed_stepper.specs.Traces.{trace_to}
pub use Rattle.ed_stepper.specs.declared.checkpoints.Checkpoint.{Checkpoint}
pub use Rattle.ed_stepper.specs.declared.commands.SessionCommand.{SessionCommand}
pub use Rattle.ed_stepper.specs.declared.commands.SessionCommand.TheVariants.{Accumulator, Move, Nothing, Show}
pub use Rattle.ed_stepper.specs.declared.inputs.TextKind.{TextKind}
pub use Rattle.ed_stepper.specs.declared.moves.MoveEnd.{MoveEnd}
pub use Rattle.ed_stepper.specs.declared.moves.MoveEnd.TheVariants.{Limit}
pub use Rattle.ed_stepper.specs.declared.moves.MoveTarget.{MoveTarget}
pub use Rattle.ed_stepper.specs.declared.moves.MoveTarget.TheVariants.{Orders}
pub use Rattle.ed_stepper.specs.declared.moves.Moved.{Moved}
