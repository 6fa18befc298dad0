-- The answer of `parts` (this project's own rule).
use Rattle.std.specs.Prelude.{◌≡◌, ℕ, List}
use Rattle.ed_machine.specs.State.{State}
use Rattle.ed_report.specs.Notes.{ending_line, part_line}
use Rattle.ed_interlude.specs.Parts.{IsReportOfTape, PartsReport}
use Rattle.ed_interlude.specs.declared.tape.PartsEnd.{PartsEnd}
use Rattle.ed_interlude.specs.declared.tape.PartsEnd.TheVariants.{Ended, Faulty}
use Rattle.ed_words.specs.Texts.{Text}
use Rattle.ed_run.specs.declared.settings.Settings.{Settings}
use Rattle.ed_initial.specs.Entry.{first_state}
use Rattle.ed_tapes.specs.Outcome.{Outcome}
use Rattle.ed_tapes.specs.Runs.{status_of}

-- the line on how a tape in parts ended: that of the run's ending, or of a part's fault
abbrev pub end_note : PartsEnd → State → Text
end_note (Ended ending) s = ending_line ending s
end_note (Faulty part row cause) s = part_line part row cause

-- the status for that ending
abbrev pub end_status : PartsEnd → ℕ
end_status (Ended ending) = status_of ending
end_status (Faulty part row cause) = 3

-- the lines of the entries and returns, which are kept even if a part is refused
abbrev pub report_outcome : PartsReport → Outcome
report_outcome t = record { out = t.text; note = end_note t.end t.last; status = end_status t.end }

-- `parts`: the report on the rows, from a cleared machine that is started on them
pub record IsInParts (s : Settings) (codes : List ℕ) (o : Outcome) : Type 0 where
  pub told : PartsReport
  pub tells : IsReportOfTape s.limit (first_state s.size codes) told
  pub outcome : report_outcome told ≡ o
