-- The trace of a run (this project's own rule).
use Rattle.std.specs.Prelude.{ℕ, ◌≡◌, ◌⊎◌, ◌+◌, ◌%◌, ◌<◌, ◌≤◌, List, ◌++◌, Option, Result, Ok, Err}
use Rattle.ed_machine.specs.State.{State}
use Rattle.ed_machine.specs.Steps.{state_after}
use Rattle.ed_machine.specs.declared.ending.Ending.{Ending}
use Rattle.ed_run.specs.Run.{run_end, run_orders}
use Rattle.ed_io.specs.Bytes.{Gains, GainsPart}
use Rattle.ed_report.specs.Traces.{functions_after, trace_text}
use Rattle.ed_io.specs.declared.stop.WriteStop.{WriteStop}
use Rattle.ed_io.specs.declared.stop.WriteStop.TheVariants.{Failed, Memory}

-- the trace of the first k orders from a state
abbrev pub trace_to : ℕ → State → List ℕ
trace_to k s = trace_text (functions_after k s)

-- the trace of the orders that a run obeys; its paper has as much room as the run has orders, so it is never full
abbrev pub trace_of : ℕ → ℕ → State → List ℕ
trace_of limit resumes s = trace_to (run_orders limit resumes limit s) s

-- a write failed, that of a line of 50 letters or of the run's last line: the full lines before it had been written,
-- and a prefix of the line itself; no order was obeyed after those of the line
pub record TraceBroke (limit resumes : ℕ) (s last : State) (before after : Option (List ℕ)) : Type 0 where
  -- the number of orders in the lines before it, and the number obeyed
  pub written : ℕ
  pub orders : ℕ
  pub full : written % 50 ≡ 0
  pub some : written < orders
  pub most : orders ≤ written + 50
  pub within : orders ≤ run_orders limit resumes limit s
  pub ends : (orders ≡ written + 50) ⊎ (orders ≡ run_orders limit resumes limit s)
  pub state_is : last ≡ state_after orders s
  -- the line, and what the sink gained
  pub part : List ℕ
  pub rest : List ℕ
  pub line : trace_to orders s ≡ trace_to written s ++ (part ++ rest)
  pub gains : Gains before after (trace_to written s ++ part)

-- the run was made and its whole trace written; or a write failed, and a prefix of the trace was written; or no
-- memory was found, nothing was written and no order obeyed
abbrev pub TraceEnds : ℕ → ℕ → State → Result Ending WriteStop → State → Option (List ℕ) → Option (List ℕ) → Type 0
TraceEnds limit resumes s (Ok ending) last before after =
    (ending ≡ (run_end limit resumes limit s).ending) × (last ≡ (run_end limit resumes limit s).state)
    × Gains before after (trace_of limit resumes s)
TraceEnds limit resumes s (Err Failed) last before after =
    GainsPart before after (trace_of limit resumes s) × TraceBroke limit resumes s last before after
TraceEnds limit resumes s (Err Memory) last before after = (last ≡ s) × (after ≡ before)
