-- The answer to a run that is traced (this project's own rule).
use Rattle.std.specs.Prelude.{ℕ, ◌==◌, List, not}
use Rattle.std.specs.List.{filter}
use Rattle.ed_machine.specs.State.{State}
use Rattle.ed_run.specs.Run.{run_end}
use Rattle.ed_report.specs.Notes.{ending_line}
use Rattle.ed_stepper.specs.Traces.{trace_of}
use Rattle.ed_words.specs.Texts.{Text}
use Rattle.ed_run.specs.declared.settings.Settings.{Settings}
use Rattle.ed_initial.specs.Entry.{first_state}
use Rattle.ed_tapes.specs.Outcome.{Outcome}
use Rattle.ed_tapes.specs.Runs.{status_of}

-- the trace of a run from a state, whose paper is never full, the line of its ending and its status
abbrev pub traced_from : Settings → State → Outcome
traced_from s start = record {
  out = trace_of s.limit s.resumes start;
  note = ending_line (run_end s.limit s.resumes s.limit start).ending (run_end s.limit s.resumes s.limit start).state;
  status = status_of (run_end s.limit s.resumes s.limit start).ending;
}

-- `trace`: the run of the rows, traced
abbrev pub trace_outcome : Settings → List ℕ → Outcome
trace_outcome s codes = traced_from s (first_state s.size codes)

-- the letters of a trace, without its line ends (10)
abbrev pub letters_in : Text → Text
letters_in = filter (λ byte. not (byte == 10))
