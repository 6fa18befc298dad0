-- What `run` answers to a source that is accepted, by the run from the state at its entry (this project's own rule).
use Rattle.std.specs.Prelude.{◌≡◌, ◌-◌, ◌<◌, ◌≤◌, List}
use Rattle.ed_words.specs.Texts.{Text}
use Rattle.ed_printer.specs.Paper.{paper}
use Rattle.ed_run.specs.Run.{run_end}
use Rattle.ed_run.specs.declared.settings.Settings.{Settings}
use Rattle.ed_lines.specs.declared.program.Line.{Line}
use Rattle.ed_link.specs.Linked.{entry_of}
use Rattle.ed_link.specs.Tapes.{cost, tape}
use Rattle.ed_report.specs.Notes.{entry_note}
use Rattle.ed_headline.specs.EntryState.{Enters, entry_state, entry_store}
use Rattle.ed_headline.specs.Refusals.{IsAcceptedAs}
use Rattle.ed_tapes.specs.Runs.{paper_room, post_mortem_codes, ran_outcome, run_of, with_post_mortem}
use Rattle.ed_headline.specs.Sources.{run_outcome}

-- the punched tape leads a cleared machine to the state at the entry, whose store has the linked program's words. With
-- a limit not below the cost, the answer of `run` is the run from that state with the limit less the cost, and the note
-- before its ending gives the entry and the cost; with a lower limit the run prints nothing. In both cases a post-mortem
-- is that of the state in which the run ended.
pub record AnswersFromEntry (s : Settings) (lines : List Line) : Type 0 where
  pub enters : Enters s.size lines (entry_store lines)
  pub entered : cost lines ≤ s.limit → run_outcome s lines
      ≡ ran_outcome (entry_note (entry_of lines) (cost lines))
      (with_post_mortem s.post_mortem (run_end (s.limit - cost lines) s.resumes paper_room (entry_state s.size lines)))
  pub short : s.limit < cost lines
      → (run_outcome s lines).out ≡ paper (post_mortem_codes s.post_mortem (run_of s (tape lines)).state)

-- the same for every source that is accepted, whatever the limit, the resumes, the size and the post-mortem
abbrev pub EachAnswerIsFromEntry : Type 0
EachAnswerIsFromEntry =
    (s : Settings) (source : Text) (lines : List Line) → IsAcceptedAs s.size source lines → AnswersFromEntry s lines
