-- What `run` answers to a source that is accepted, with every limit (this project's own rule).
use Rattle.std.specs.Prelude.{◌<◌, List}
use Rattle.ed_words.specs.Texts.{Text}
use Rattle.ed_run.specs.declared.settings.Settings.{Settings}
use Rattle.ed_lines.specs.declared.program.Line.{Line}
use Rattle.ed_link.specs.Tapes.{cost, tape}
use Rattle.ed_headline.specs.FromEntry.{AnswersFromEntry}
use Rattle.ed_headline.specs.Refusals.{IsAcceptedAs}
use Rattle.ed_headline.specs.Sources.{run_outcome}
use Rattle.ed_laws.specs.CutRuns.{IsCutOff}

-- the answer is that of the run from the entry; with a limit below the cost it is that of a run that is cut off
pub record SourceRunsFromEntry (s : Settings) (lines : List Line) : Type 0 where
  pub entered : AnswersFromEntry s lines
  pub short : s.limit < cost lines → IsCutOff s (tape lines) (run_outcome s lines)

-- the same for every source that is accepted, whatever the limit, the resumes, the size and the post-mortem
abbrev pub EachSourceRunsFromEntry : Type 0
EachSourceRunsFromEntry =
    (s : Settings) (source : Text) (lines : List Line) → IsAcceptedAs s.size source lines → SourceRunsFromEntry s lines
