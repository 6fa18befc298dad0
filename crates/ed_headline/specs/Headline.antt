-- What holds of every source: if it is accepted, its tape leads to the state at the entry, and its run is the run from
-- there; if it isn't, it is refused at a line for a cause.
use Rattle.std.specs.Prelude.{◌≡◌, ℕ, ◌-◌, ◌<◌, ◌≤◌, List, []}
use Rattle.ed_words.specs.declared.size.Size.{Size}
use Rattle.ed_store.specs.Cells.{Cells}
use Rattle.ed_run.specs.Run.{run_end}
use Rattle.ed_lines.specs.declared.program.Line.{Line}
use Rattle.ed_lines.specs.declared.fault.SourceCause.{SourceCause}
use Rattle.ed_headline.specs.Refusals.{IsAcceptedAs, IsRefused}
use Rattle.ed_link.specs.Tapes.{cost, tape}
use Rattle.ed_headline.specs.EntryState.{Enters, entered_state}
use Rattle.ed_headline.specs.EntryWords.{IsEntryStore}
use Rattle.ed_words.specs.Texts.{Text}
use Rattle.ed_run.specs.declared.settings.Settings.{Settings}
use Rattle.ed_tapes.specs.Runs.{paper_room, run_of}

-- the punched tape leads a cleared machine of the size to the state at the entry, at its cost and with nothing printed;
-- the store there has the words of the lines, each at its location. With a limit not below the cost, the run of the tape
-- is the run from that state with the limit less the cost: it ends in the same way, in the same state, with the same
-- codes on its paper. With a lower limit it prints nothing.
pub record RunsFromEntry (s : Settings) (lines : List Line) : Type 0 where
  pub store : Cells
  pub store_is : IsEntryStore lines store
  pub enters : Enters s.size lines store
  pub runs : cost lines ≤ s.limit → run_of s (tape lines)
      ≡ run_end (s.limit - cost lines) s.resumes paper_room (entered_state s.size lines store)
  pub short : s.limit < cost lines → (run_of s (tape lines)).codes ≡ []

-- each source that is accepted runs from its entry, whatever the limit, the resumes and the size; and every other source
-- is refused, at a line and for a cause
pub record Headline : Type 0 where
  pub runs : (s : Settings) (source : Text) (lines : List Line) → IsAcceptedAs s.size source lines → RunsFromEntry s lines
  pub refuses : (z : Size) (source : Text) → ((lines : List Line) → IsAcceptedAs z source lines → ⊥)
      → (k : ℕ) × (c : SourceCause) × IsRefused z source k c
