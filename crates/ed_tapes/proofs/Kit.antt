-- The names that the proofs of this crate cite, passed on from one place. Declares nothing.
pub use Rattle.std.proofs.Common.{IsErr, IsErrAnd, IfOk, Ok, Err, Result, append-nil, length, ◌≢◌, ◌⊎◌, ◌<◌}
pub use Rattle.ed_words.specs.Texts.{Text}
pub use Rattle.ed_words.specs.declared.memory.NoMemory.{NoMemory}
pub use Rattle.ed_words.specs.declared.size.Size.{Size}
pub use Rattle.ed_codes.specs.Reading.{no_row, open_comment, Reading, reading, rows}
pub use Rattle.ed_printer.specs.Paper.{paper}
pub use Rattle.ed_machine.specs.declared.ending.Ending.{Ending}
pub use Rattle.ed_machine.proofs.LeastNumbers.{least_below}
pub use Rattle.ed_run.specs.Run.{RunEnd}
pub use Rattle.ed_run.specs.declared.settings.Settings.{Settings}
pub use Rattle.ed_run.specs.declared.settings.Window.{Window}
unfoldable pub use Rattle.ed_run.proofs.Kit.{run_end}
pub use Rattle.ed_notation.specs.Faults.{TapeEntry}
unfoldable pub use Rattle.ed_initial.specs.Entry.{first_state}
pub use Rattle.ed_initial1.specs.Faults.{Tape}
pub use Rattle.ed_initial1.proofs.Kit.{[], ap, arith, inl, inr, List, None, Option, refl, rules, Some, State, subst}
pub use Rattle.ed_initial1.proofs.Kit.{sym, ℕ, ◌++◌, ◌+◌, ◌∙◌, ◌≡◌, ◌≤◌}
pub use Rattle.ed_report.specs.Entries.{entry_line}
pub use Rattle.ed_report.specs.Notes.{ending_line}
pub use Rattle.ed_tapes.specs.Answer.{exactly, of_rows, OfReading}
pub use Rattle.ed_tapes.specs.FirstOrders.{IsChecked1, tape1_outcome}
pub use Rattle.ed_tapes.specs.Outcome.{done, Outcome, refusal}
pub use Rattle.ed_tapes.specs.Replies.{Gives, Replies}
pub use Rattle.ed_tapes.specs.Runs.{post_mortem_codes, ran_outcome, run_of, status_of, with_post_mortem}
pub use Rattle.ed_tapes.specs.Tapes.{IsChecked, tape_outcome}
pub use Rattle.ed_tapes.specs.declared.reply.Rejection.{Rejection}
pub use Rattle.ed_tapes.specs.declared.reply.Reply.{Reply}
