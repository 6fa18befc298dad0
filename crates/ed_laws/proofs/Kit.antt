-- The names that the proofs of this crate cite, passed on from one place. Declares nothing.
pub use Rattle.std.proofs.lemmas.Grind.{common_steps}
pub use Rattle.std.proofs.Common.{slice_index}
pub use Rattle.std.specs.List.{range_with_len}
pub use Rattle.std.proofs.lemmas.List.Elements.{filter-append}
pub use Rattle.std.proofs.lemmas.Option.{none-some}
pub use Rattle.ed_words.specs.declared.size.Size.{Size}
pub use Rattle.ed_words.specs.declared.size.Size.TheVariants.{Full}
pub use Rattle.ed_printer.specs.Paper.{paper_from}
pub use Rattle.ed_printer.specs.declared.printer.Shift.{Shift}
pub use Rattle.ed_store.specs.Cells.{cleared_cells}
pub use Rattle.ed_orders.specs.declared.kind.Kind.{Kind}
pub use Rattle.ed_machine.specs.declared.ending.Ending.{Ending}
pub use Rattle.ed_machine.specs.declared.ending.Ending.TheVariants.{Limit, NoOrder, NoTape, PaperFull, Stopped}
pub use Rattle.ed_machine.specs.declared.turn.Turn.{Turn}
pub use Rattle.ed_machine.specs.declared.turn.Turn.TheVariants.{Went}
pub use Rattle.ed_machine.proofs.Counts.{counted_after}
pub use Rattle.ed_machine.proofs.Steps.{few_codes, next_stops, past_next, past_sum}
pub use Rattle.ed_run.specs.Laws.{HasRoom}
pub use Rattle.ed_run.specs.declared.settings.Settings.{Settings}
pub use Rattle.ed_run.proofs.Ends.{ran_is}
pub use Rattle.ed_run.proofs.Quiet.{limit_there}
pub use Rattle.ed_notation.specs.Fold.{word_with}
pub use Rattle.ed_notation.specs.declared.cause.TapeCause.{TapeCause}
pub use Rattle.ed_notation.specs.declared.cause.TapeCause.TheVariants.{BadRow}
pub use Rattle.ed_notation.specs.declared.item.Item.{Item}
pub use Rattle.ed_notation.specs.declared.kind.RowKind.{RowKind}
pub use Rattle.ed_notation.specs.declared.kind.RowKind.TheVariants.{Letter}
pub use Rattle.ed_notation.specs.declared.reader.PartialItem.{PartialItem}
pub use Rattle.ed_notation.specs.declared.reader.RowEffect.{RowEffect}
pub use Rattle.ed_notation.specs.declared.reader.RowEffect.TheVariants.{Ended, Entered, Longer, Placed, Refused}
pub use Rattle.ed_notation.proofs.Directives.{first_directive}
pub use Rattle.ed_notation.proofs.Kit.{length-append, unwrap_or, ◌%◌, ◌&&◌, ◌*◌, ◌/◌, and_parts, le-ltb, lt-leb}
pub use Rattle.ed_notation.proofs.Kit.{byte_of, breaks, is_broken, RowsReachEntry, WellFormed, act, costs, fold}
pub use Rattle.ed_notation.proofs.Kit.{NotationState, AreDigits, Begun, digits_number, item_of, items, row_kind}
pub use Rattle.ed_notation.proofs.Kit.{rows_of, Written, IsDirective, Arrived, entry_by, Faulty, part_of, placed_by}
pub use Rattle.ed_notation.proofs.Kit.{row_effect, set_by, setting_of, Verdict}
unfoldable pub use Rattle.ed_notation.proofs.Kit.{reading_on}
pub use Rattle.ed_initial.proofs.Starts.{first_store, IsStarted-first_state}
pub use Rattle.ed_postmortem.proofs.Kit.{Obeyed, address_digits, is_even, length_code, number_in, word_codes}
unfoldable pub use Rattle.ed_postmortem.proofs.Kit.{printed_codes}
pub use Rattle.ed_lines.specs.declared.program.Line.{Line}
pub use Rattle.ed_link.specs.Faults.{on_line}
pub use Rattle.ed_laws.specs.FirstFaults.{silent_outcome}
pub use Rattle.ed_laws.specs.Limits.{StartsWith, with_limit}
pub use Rattle.ed_tapes.specs.Tapes.{opening_notation}
pub use Rattle.ed_headline.proofs.Kit.{[], ap, append-nil, append_assoc, arith, Bool, codes, drop, false, get_or}
pub use Rattle.ed_headline.proofs.Kit.{if◌then◌else◌, inl, inr, length, List, map, nat_eq, nat_le, nat_lt, None, Option}
pub use Rattle.ed_headline.proofs.Kit.{refl, replicate, rules, Some, subst, suc, sym, true, true≢false, ℕ, ◌++◌, ◌+◌}
pub use Rattle.ed_headline.proofs.Kit.{◌-◌, ◌<◌, ◌^◌, ◌∙◌, ◌∷◌, ◌≡◌, ◌≢◌, ◌≤◌, ◌⊎◌, nat_tests, Text, reading, paper}
pub use Rattle.ed_headline.proofs.Kit.{State, Progress, state_after, least_below, AllWent, end_at, end_by, EndsAfter}
pub use Rattle.ed_headline.proofs.Kit.{run_orders, RunEnd, ran_ends, ran_later, TapeEntry, over, ReachesEntry1, Tape}
pub use Rattle.ed_headline.proofs.Kit.{entry_of, cost, tape, ending_line, entry_note, Outcome, refusal, IsAcceptedAs}
pub use Rattle.ed_headline.proofs.Kit.{paper_room, ran_outcome, run_of, status_of, with_post_mortem, entered_before}
pub use Rattle.ed_headline.proofs.Kit.{OfSource, punch_outcome, run_outcome, tape_outcome, post_mortem_codes}
unfoldable pub use Rattle.ed_headline.proofs.Kit.{step, progress, run_end, first_state, first_state1}
unfoldable pub use Rattle.ed_stepper.specs.MoveEnds.{move_end}
pub use Rattle.ed_stepper.proofs.Kit.{is_some, not, slice_index_or, ◌==◌, AreObeyed, is_obeyed, first_once}
pub use Rattle.ed_stepper.proofs.Kit.{first_within, after_sum, free_sum, trace_to}
unfoldable pub use Rattle.ed_stepper.proofs.Kit.{functions_after, move_orders}
pub use Rattle.ed_stepper.proofs.Stands.{move_free}
pub use Rattle.ed_interlude.specs.Parts.{return_report}
pub use Rattle.ed_interlude.proofs.Kit.{zero, cases_lt, ne_eqb, same_Some, stops_of, opening, reading_is_rules, LeadsIn}
pub use Rattle.ed_interlude.proofs.Kit.{cut, entry_report, faulty, finished, first_part, HasFault, LeadsTo, PartsReport}
pub use Rattle.ed_interlude.proofs.Kit.{ReportsParts, TapePart}
pub use Rattle.ed_sources.proofs.Kit.{◌||◌, function_of, kind_of_function, next_word, obey_word, codes_of}
pub use Rattle.ed_sources.proofs.Kit.{each_answer_is_from_entry}
pub use Rattle.ed_streams.specs.Parts.{end_status, IsInParts, report_outcome}
pub use Rattle.ed_streams.specs.Traces.{letters_in}
pub use Rattle.ed_laws.specs.CutRuns.{limit_state}
pub use Rattle.ed_laws.specs.TapeFacts.{end_later}
