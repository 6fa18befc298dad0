-- What is on `out` of a trace that is not told whole.
use Rattle.ed_streams.proofs.Kit.{Settings, stop_faults, WriteStop, Failed, Memory, gains_none, known, [], append-nil, Err}
use Rattle.ed_streams.proofs.Kit.{Ok, ℕ, ◌≡◌, State, Device, WrotePart, Carried, traced_from, none_written}
use Rattle.ed_machine.specs.declared.ending.Ending.{Ending}
use Rattle.ed_stepper.specs.Traces.{TraceEnds}
use Rattle.std.proofs.Common.{rules}

module _ (s : Settings) (start : State) (out : Device) where
  -- a fault stops the command
  pub trace_stopped : (limit : ℕ) → limit ≡ s.limit → (fault : WriteStop) (last : State)
      → TraceEnds limit s.resumes start (Err fault) last out.before out.after
      → out.faults_after ≡ stop_faults {T = Ending} (Err fault) out.faults_before
      → Carried (known (traced_from s start)) [] out (Err fault)
  trace_stopped limit same Failed last ends count = search rules
  trace_stopped limit same Memory last ends count = search (rules, none_written, gains_none)

  -- all of it is, and no memory was found for the note
  pub trace_untold : (limit : ℕ) → limit ≡ s.limit → (ending : Ending) (last : State)
      → TraceEnds limit s.resumes start (Ok ending) last out.before out.after
      → WrotePart out (traced_from s start).out
  trace_untold limit same ending last ends = search (rules, append-nil)
