-- How what is made of a source relates to the source: its linked program, its run, or the reply that refuses it.
use Rattle.std.specs.Prelude.{◌≡◌, ℕ, ◌++◌, List, Result, Ok, Err}
use Rattle.ed_words.specs.Texts.{Text}
use Rattle.ed_words.specs.declared.size.Size.{Size}
use Rattle.ed_run.specs.declared.settings.Settings.{Settings}
use Rattle.ed_lines.specs.declared.program.Line.{Line}
use Rattle.ed_lines.specs.declared.fault.SourceCause.{SourceCause}
use Rattle.ed_lines.specs.declared.fault.SourceFault.TheVariants.{At}
use Rattle.ed_link.specs.Answers.{IsLinked}
use Rattle.ed_link.specs.Tapes.{tape}
use Rattle.ed_link.specs.declared.linked.Linked.{Linked}
use Rattle.ed_report.specs.Notes.{ending_line, source_fault_line}
use Rattle.ed_tapes.specs.Outcome.{refusal}
use Rattle.ed_tapes.specs.Replies.{Gives, IsRunResult}
use Rattle.ed_tapes.specs.Runs.{run_of}
use Rattle.ed_tapes.specs.declared.reply.Rejection.{Rejection}
use Rattle.ed_tapes.specs.declared.reply.Rejection.TheVariants.{Memory, Refused}
use Rattle.ed_headline.specs.Refusals.{IsAcceptedAs, IsRefused}
use Rattle.ed_headline.specs.Sources.{entered_before}
use Rattle.ed_answers.specs.declared.source.NotedRun.{NotedRun}

-- a run of a source that ended is that of its tape, with its note
pub record IsRunResultOf (s : Settings) (lines : List Line) (noted : NotedRun) : Type 0 where
  pub ran : IsRunResult (run_of s (tape lines)) noted.ran
  pub note_is : noted.note.items
      ≡ entered_before lines noted.ran.machine ++ ending_line noted.ran.ending noted.ran.machine

-- the linked program of a source that is accepted, or the reply that refuses the source
abbrev pub LinksSource : Size → Text → Result Linked Rejection → Type 0
LinksSource z text (Ok k) = (lines : List Line) × IsAcceptedAs z text lines × IsLinked z lines k
LinksSource z text (Err (Refused reply)) =
    (k : ℕ) × (c : SourceCause) × IsRefused z text k c × Gives reply (refusal (source_fault_line (At k c)))
LinksSource z text (Err Memory) = Unit {0}

-- the run of a source that is accepted, or the reply that refuses the source
abbrev pub RunsSource : Settings → Text → Result NotedRun Rejection → Type 0
RunsSource s text (Ok noted) = (lines : List Line) × IsAcceptedAs s.size text lines × IsRunResultOf s lines noted
RunsSource s text (Err e) = LinksSource s.size text (Err e)
