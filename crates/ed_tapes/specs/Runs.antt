-- Runs from Start, and their answers (this project's own rules).
use Rattle.std.specs.Prelude.{ℕ, ◌++◌, List, [], Option, Some, None}
use Rattle.ed_printer.specs.Paper.{paper}
use Rattle.ed_machine.specs.State.{State}
use Rattle.ed_machine.specs.declared.ending.Ending.{Ending}
use Rattle.ed_machine.specs.declared.ending.Ending.TheVariants.{Stopped, Limit, NoOrder, NoTape, PaperFull}
use Rattle.ed_run.specs.Run.{RunEnd, run_end}
use Rattle.ed_postmortem.specs.Codes.{printed_codes}
use Rattle.ed_report.specs.Notes.{ending_line}
use Rattle.ed_words.specs.Texts.{Text}
use Rattle.ed_run.specs.declared.settings.Settings.{Settings}
use Rattle.ed_run.specs.declared.settings.Window.{Window}
use Rattle.ed_initial.specs.Entry.{first_state}
use Rattle.ed_tapes.specs.Outcome.{Outcome}

-- the status of a run's ending
abbrev pub status_of : Ending → ℕ
status_of Stopped = 0
status_of Limit = 4
status_of NoOrder = 5
status_of NoTape = 6
status_of PaperFull = 7

-- the number of codes that the paper holds
abbrev pub paper_room : ℕ
paper_room = 1000000

-- the run of rows: from a cleared machine, started on them with the Initial Orders
abbrev pub run_of : Settings → List ℕ → RunEnd
run_of s codes = run_end s.limit s.resumes paper_room (first_state s.size codes)

-- the codes that a post-mortem prints of a state: those of the words in a window, or none without a window
abbrev pub post_mortem_codes : Option Window → State → List ℕ
post_mortem_codes None s = []
post_mortem_codes (Some w) s = printed_codes s.store.words w.first w.count

-- a run, with the codes of a post-mortem of the state in which it ended after its own
abbrev pub with_post_mortem : Option Window → RunEnd → RunEnd
with_post_mortem window r = record r { codes = r.codes ++ post_mortem_codes window r.state }

-- a run that ended: the teleprinter's bytes; a text, and the line of the ending after it; and the status
abbrev pub ran_outcome : Text → RunEnd → Outcome
ran_outcome before r = record {
  out = paper r.codes;
  note = before ++ ending_line r.ending r.state;
  status = status_of r.ending;
}
