-- What `punch` writes is the tape that `run` runs (this project's own rules).
use Rattle.std.specs.Prelude.{◌≡◌, List, length}
use Rattle.ed_codes.specs.Reading.{reading, rows}
use Rattle.ed_lines.specs.declared.program.Line.{Line}
use Rattle.ed_link.specs.Linked.{entry_of}
use Rattle.ed_headline.specs.Refusals.{IsAcceptedAs}
use Rattle.ed_link.specs.Tapes.{cost, punched_rows, tape}
use Rattle.ed_report.specs.Entries.{entry_line}
use Rattle.ed_words.specs.Texts.{Text}
use Rattle.ed_run.specs.declared.settings.Settings.{Settings}
use Rattle.ed_tapes.specs.Outcome.{done}
use Rattle.ed_tapes.specs.Tapes.{IsChecked, tape_outcome}
use Rattle.ed_headline.specs.Sources.{punch_outcome, run_outcome}

-- the text that `punch` writes for these lines is that of a tape, and its rows are those of the source's tape. On that
-- tape `tape` prints what `run` prints for the source and ends with its status, for the same limit, resumes, size and
-- post-mortem; and `check-tape` reports the entry and the cost in the note of `run`, and the rows up to the entry
pub record PunchedIsRun (s : Settings) (lines : List Line) : Type 0 where
  pub reads : reading (punch_outcome lines).out ≡ rows (tape lines)
  pub out_is : (tape_outcome s (tape lines)).out ≡ (run_outcome s lines).out
  pub status_is : (tape_outcome s (tape lines)).status ≡ (run_outcome s lines).status
  pub checked : IsChecked s (tape lines) (done (entry_line (entry_of lines) (cost lines) (length (punched_rows lines))))

-- the same for every source that is accepted
abbrev pub EachPunchedIsRun : Type 0
EachPunchedIsRun =
    (s : Settings) (source : Text) (lines : List Line) → IsAcceptedAs s.size source lines → PunchedIsRun s lines
