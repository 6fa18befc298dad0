-- The names that the proofs of this crate cite, passed on from one place. Declares nothing.
pub use Rattle.std.proofs.Common.{Err}
pub use Rattle.std.proofs.lemmas.Bool.{cases_eq, eq-eqb, ne_eqb}
pub use Rattle.std.proofs.lemmas.Option.{same_Some}
pub use Rattle.std.proofs.lemmas.Result.{err_from_is_err_and}
pub use Rattle.ed_words.specs.declared.order_words.TheConstants.{T_F}
pub use Rattle.ed_machine.specs.declared.ending.Ending.{Ending}
pub use Rattle.ed_machine.specs.declared.ending.Ending.TheVariants.{Limit, Stopped}
pub use Rattle.ed_machine.specs.declared.turn.Turn.{Turn}
pub use Rattle.ed_machine.specs.declared.turn.Turn.TheVariants.{Printed, Went}
pub use Rattle.ed_machine.proofs.Names.{append_assoc, rules, Progress, stops_of}
pub use Rattle.ed_run.specs.Run.{end_by}
pub use Rattle.ed_notation.specs.Fold.{address}
pub use Rattle.ed_notation.specs.declared.cause.TapeCause.{TapeCause}
pub use Rattle.ed_initial.proofs.Kit.{[], ap, arith, Bool, false, get_or, if◌then◌else◌, inl, inr, length, List}
pub use Rattle.ed_initial.proofs.Kit.{nat_eq, None, Option, refl, Some, subst, suc, sym, true, zero, ℕ, ◌*◌, ◌++◌, ◌+◌}
pub use Rattle.ed_initial.proofs.Kit.{◌-◌, ◌/◌, ◌<◌, ◌^◌, ◌∙◌, ◌≡◌, ◌≢◌, ◌≤◌, ◌⊎◌, cases_lt, IsStore, State}
pub use Rattle.ed_initial.proofs.Kit.{state_after, next_state, TapeEntry, IsDirective, opening, reading_is_rules}
pub use Rattle.ed_initial.proofs.Kit.{initial_orders}
unfoldable pub use Rattle.ed_initial.proofs.Kit.{step, progress}
pub use Rattle.ed_initial.proofs.Opened.{frame}
pub use Rattle.ed_initial.proofs.Paths.{state}
pub use Rattle.ed_initial.proofs.Quiet.{LeadsIn}
pub use Rattle.ed_io.specs.Causes.{stop_faults}
pub use Rattle.ed_io.specs.declared.stop.WriteStop.TheVariants.{Failed, Memory}
pub use Rattle.ed_io.proofs.Calls.{gains_more, gains_none}
pub use Rattle.ed_report.specs.Entries.{returned_line}
pub use Rattle.ed_interlude.specs.Laws.{Begins}
pub use Rattle.ed_interlude.specs.Parts.{Concludes, cut, entry_done, entry_report, faulty, finished, Finishes}
pub use Rattle.ed_interlude.specs.Parts.{first_part, GoesBack, HasFault, LeadsTo, part_after, part_entry_state}
pub use Rattle.ed_interlude.specs.Parts.{part_report, PartsReport, read_before, ReportsParts, ReturnsToLoader, RunsOn}
pub use Rattle.ed_interlude.specs.Parts.{TapePart}
pub use Rattle.ed_interlude.specs.Private.Stages.{Ahead, part_at_start}
pub use Rattle.ed_interlude.specs.Returned.{directive, IsReturned, LeavesDirective, reopening}
pub use Rattle.ed_interlude.specs.declared.tape.PartsEnd.{PartsEnd}
pub use Rattle.ed_interlude.specs.declared.tape.PartsEnd.TheVariants.{Ended, Faulty}
