-- The names that the proofs of this crate cite, passed on from one place. Declares nothing.
pub use Rattle.std.proofs.Common.{IsErr, IsErrAnd}
pub use Rattle.std.proofs.lemmas.List.{length-append, length-drop}
pub use Rattle.ed_words.specs.declared.memory.NoMemory.{NoMemory}
pub use Rattle.ed_words.specs.declared.size.Size.{Size}
pub use Rattle.ed_words.specs.declared.size.Size.TheVariants.{Full, Small}
pub use Rattle.ed_codes.specs.Reading.{no_row, open_comment, Reading}
pub use Rattle.ed_printer.specs.Paper.{paper}
unfoldable pub use Rattle.ed_machine.specs.Steps.{least}
pub use Rattle.ed_machine.specs.declared.ending.Ending.{Ending}
pub use Rattle.ed_machine.proofs.LeastNumbers.{least_below}
pub use Rattle.ed_run.specs.Run.{RunEnd}
pub use Rattle.ed_run.specs.declared.settings.Settings.{Settings}
pub use Rattle.ed_run.specs.declared.settings.Window.{Window}
pub use Rattle.ed_run.proofs.Ends.{ran_ends}
pub use Rattle.ed_run.proofs.Kit.{State, Progress, state_after, AllWent, end_at, end_by, EndsAfter, run_orders}
unfoldable pub use Rattle.ed_run.proofs.Kit.{step, progress, run_end}
pub use Rattle.ed_run.proofs.Later.{ran_later}
pub use Rattle.ed_notation.proofs.Kit.{true≢false, ◌≢◌, TapeEntry, over, text_of}
unfoldable pub use Rattle.ed_initial.specs.Entry.{first_state}
pub use Rattle.ed_initial1.specs.Faults.{ReachesEntry1, Tape}
pub use Rattle.ed_syntax.specs.Reading.Sources.{is_two, program_of}
pub use Rattle.ed_syntax.specs.Sources.{HasFormFault}
pub use Rattle.ed_lines.specs.declared.fault.SourceCause.{SourceCause}
pub use Rattle.ed_lines.specs.declared.fault.SourceFault.{SourceFault}
pub use Rattle.ed_lines.specs.declared.fault.SourceFault.TheVariants.{At, Memory}
pub use Rattle.ed_lines.specs.declared.program.Line.{Line}
pub use Rattle.ed_lines.specs.declared.program.Operand.TheVariants.{Number}
pub use Rattle.ed_lines.specs.declared.program.Statement.TheVariants.{Order}
pub use Rattle.ed_syntax.proofs.Formed.{program_formed}
pub use Rattle.ed_syntax.proofs.Kit.{codes, Err, IfErr, IfOk, Ok, Result, Text, lines_of, IsProgram}
unfoldable pub use Rattle.ed_syntax.proofs.Kit.{settings}
pub use Rattle.ed_syntax.proofs.SourceLaws.{has_one_meaning, program_is_read, source_answer}
pub use Rattle.ed_link.specs.Answers.{HasMeaningFault}
pub use Rattle.ed_link.specs.Faults.{IsMeaningFault}
pub use Rattle.ed_link.specs.Linked.{entry_of}
pub use Rattle.ed_link.specs.Tapes.{arrival, cost, tape}
pub use Rattle.ed_link.specs.declared.linked.Linked.{Linked}
pub use Rattle.ed_link.specs.declared.linked.Placed.{Placed}
pub use Rattle.ed_link.proofs.Kit.{[], ap, append-nil, append_assoc, arith, Bool, drop, false, get_or, if◌then◌else◌}
pub use Rattle.ed_link.proofs.Kit.{inl, inr, length, List, map, nat_eq, nat_le, nat_lt, None, Option, refl, replicate}
pub use Rattle.ed_link.proofs.Kit.{reverse, rules, Some, subst, suc, sym, true, ℕ, ◌++◌, ◌+◌, ◌-◌, ◌<◌, ◌^◌, ◌∙◌, ◌∷◌}
pub use Rattle.ed_link.proofs.Kit.{◌≡◌, ◌≤◌, ◌⊎◌, list_all, nat_tests, length-replicate, reading, rows, canonicals}
pub use Rattle.ed_link.proofs.Kit.{IsLinked, fault, data_after, linked_words, after_text}
unfoldable pub use Rattle.ed_link.proofs.Kit.{linked_places}
pub use Rattle.ed_report.specs.Entries.{entry_line}
pub use Rattle.ed_report.specs.Listings.{listing}
pub use Rattle.ed_report.specs.Notes.{ending_line, entry_note}
pub use Rattle.ed_tapes.specs.Answer.{exactly, of_rows, OfReading}
pub use Rattle.ed_tapes.specs.FirstOrders.{tape1_outcome}
unfoldable pub use Rattle.ed_tapes.specs.FirstOrders.{first_state1}
pub use Rattle.ed_tapes.specs.Outcome.{done, Outcome, refusal}
pub use Rattle.ed_tapes.specs.Replies.{Gives, Replies}
pub use Rattle.ed_tapes.specs.Runs.{paper_room, post_mortem_codes, ran_outcome, run_of, status_of, with_post_mortem}
pub use Rattle.ed_tapes.specs.Tapes.{tape_outcome}
pub use Rattle.ed_tapes.specs.declared.reply.Rejection.{Rejection}
pub use Rattle.ed_tapes.specs.declared.reply.Reply.{Reply}
pub use Rattle.ed_headline.specs.EntryState.{Enters, entry_state, entry_store, loader_words}
pub use Rattle.ed_headline.specs.EntryWords.{IsEntryStore}
pub use Rattle.ed_headline.specs.Refusals.{for_form, for_meaning, IsAcceptedAs, IsAcceptedOrRefused, IsRefused}
pub use Rattle.ed_headline.specs.Sources.{entered_before, listing_outcome, of_source, OfSource, punch_outcome}
pub use Rattle.ed_headline.specs.Sources.{run_outcome}
