-- What the commands for tapes answer to the text that `punch` writes (this project's own rules).
use Rattle.std.specs.Prelude.{◌↔◌, ◌≤◌, List, length}
use Rattle.ed_words.specs.Texts.{Text}
use Rattle.ed_store.specs.Cells.{cleared_cells}
use Rattle.ed_run.specs.declared.settings.Settings.{Settings}
use Rattle.ed_lines.specs.declared.program.Line.{Line}
use Rattle.ed_link.specs.Tapes.{arrival, tape}
use Rattle.ed_stepper.specs.ScriptLines.{CommandList}
use Rattle.ed_stepper.specs.declared.inputs.TextKind.TheVariants as kinds
use Rattle.ed_tapes.specs.declared.input.TheConstants.{INPUT_BYTES}
use Rattle.ed_tapes.specs.Outcome.{Outcome}
use Rattle.ed_laws.specs.PunchedTapes.{PunchedIsRun}
use Rattle.ed_headline.specs.Refusals.{IsAcceptedAs}
use Rattle.ed_headline.specs.Sources.{punch_outcome}
use Rattle.ed_top.specs.Scripts.{OnText}
use Rattle.ed_laws.specs.TapeEntries.{TapeRunsFromEntry}

-- The text may be an input of the program. `tape` and `check-tape` answer as `run` does for the source. `step` answers
-- each script as it does on the source. `trace` and `parts` answer as on a tape with the source's entry and cost.
pub record PunchedTextIsSource (s : Settings) (source : Text) (lines : List Line) : Type 0 where
  pub short : length (punch_outcome lines).out ≤ INPUT_BYTES
  pub run : PunchedIsRun s lines
  pub stepped : (commands : CommandList) (o : Outcome)
      → OnText s commands kinds.Tape (punch_outcome lines).out o ↔ OnText s commands kinds.Source source o
  pub entered : TapeRunsFromEntry s (tape lines) (arrival cleared_cells.words lines)

-- the same for every source that is accepted
abbrev pub EachPunchedTextIsSource : Type 0
EachPunchedTextIsSource =
    (s : Settings) (source : Text) (lines : List Line) → IsAcceptedAs s.size source lines
    → PunchedTextIsSource s source lines
