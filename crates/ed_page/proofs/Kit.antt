-- The names that the proofs of this crate cite, passed on from one place. Declares nothing.
pub use Rattle.std.proofs.Common.{flat_map, IfSome, IsNone, ◌↔◌}
pub use Rattle.std.proofs.Math.Seq.{take-append_seam, take-length}
pub use Rattle.std.proofs.lemmas.Bool.{ne_eqb}
pub use Rattle.std.proofs.lemmas.Grind.{common_steps}
pub use Rattle.std.proofs.lemmas.List.{get_or_read}
pub use Rattle.ed_words.specs.declared.size.Size.{Size}
pub use Rattle.ed_printer.specs.Paper.{latest_shift, paper_from}
pub use Rattle.ed_printer.specs.declared.printer.Shift.{Shift}
pub use Rattle.ed_store.specs.Cells.{cleared_cells}
pub use Rattle.ed_orders.specs.declared.kind.Kind.{Kind}
pub use Rattle.ed_machine.specs.Reached.{IsReached}
pub use Rattle.ed_machine.proofs.Names.{zero, function_of, Cells, IsStore, kind_of_function}
pub use Rattle.ed_run.specs.SettingRanges.{IsWindowOf}
pub use Rattle.ed_run.specs.declared.settings.Settings.{Settings}
pub use Rattle.ed_notation.specs.declared.cause.TapeCause.{TapeCause}
pub use Rattle.ed_notation.specs.declared.kind.RowKind.TheVariants.{Digit}
pub use Rattle.ed_notation.proofs.Kit.{length-append, lit<, lit≤, take, ◌%◌, ◌*◌, ◌/◌, le-ltb, lt-ltb}
pub use Rattle.ed_notation.proofs.Kit.{locations, digit, IsFault, AreDigits, digits_number}
pub use Rattle.ed_notation.proofs.Loop.{next_row}
pub use Rattle.ed_initial1.specs.Faults.{IsFault1}
pub use Rattle.ed_initial1.specs.declared.cause.Tape1Cause.{Tape1Cause}
pub use Rattle.ed_lines.specs.declared.program.Line.{Line}
pub use Rattle.ed_tapes.specs.Answer.{IsDue, of_input}
pub use Rattle.ed_tapes.specs.FirstOrders.{run1_of}
pub use Rattle.ed_tapes.specs.Replies.{IsRunResult}
pub use Rattle.ed_tapes.specs.Tapes.{opening_notation}
pub use Rattle.ed_tapes.specs.declared.reply.Reply.{Reply}
pub use Rattle.ed_tapes.specs.declared.running.FinishedRun.{FinishedRun}
pub use Rattle.ed_answers.specs.declared.source.NotedRun.{NotedRun}
pub use Rattle.ed_headline.proofs.Kit.{[], ap, append-nil, append_assoc, arith, Bool, drop, Err, false, get_or}
pub use Rattle.ed_headline.proofs.Kit.{if◌then◌else◌, inl, inr, length, List, nat_eq, nat_le, nat_lt, None, Ok, Option}
pub use Rattle.ed_headline.proofs.Kit.{refl, replicate, Result, reverse, rules, Some, subst, suc, sym, true, ℕ, ◌++◌}
pub use Rattle.ed_headline.proofs.Kit.{◌+◌, ◌-◌, ◌<◌, ◌^◌, ◌∙◌, ◌∷◌, ◌≡◌, ◌≢◌, ◌≤◌, ◌⊎◌, length-drop}
pub use Rattle.ed_headline.proofs.Kit.{Text, reading, rows, paper, State, state_after, run_orders, RunEnd, tape}
pub use Rattle.ed_headline.proofs.Kit.{ending_line, done, Outcome, IsAcceptedAs, Gives, paper_room, ran_outcome, run_of}
pub use Rattle.ed_headline.proofs.Kit.{entered_before, OfSource, run_outcome, tape_outcome}
unfoldable pub use Rattle.ed_headline.proofs.Kit.{step, progress, run_end, first_state, first_state1}
pub use Rattle.ed_page.specs.Answers.{Buffers, IsShown, picture_buffers, RowsEnd, SourceEnds, text_buffers}
pub use Rattle.ed_page.specs.Going.{AreCodes}
pub use Rattle.ed_page.specs.Pictures.{Pictures, PicturesStore, run_settings, size_shown}
pub use Rattle.ed_page.specs.Private.ItemTables.{item_at, opened_with}
pub use Rattle.ed_page.specs.Private.Letters.{letter_byte}
pub use Rattle.ed_page.specs.Private.Requests.{answers_of, answers_to, tape_outcome_by}
pub use Rattle.ed_page.specs.Private.Stages.{IsReplied, told_outcome}
pub use Rattle.ed_page.specs.TapeItems.{four_bytes, IsItemsOutcome, IsItemsOutcome1, item_line}
pub use Rattle.ed_page.specs.declared.items.OpenItem.{OpenItem}
pub use Rattle.ed_page.specs.declared.writing.Registers.{Registers}
