use Rattle.ed_stepper.proofs.Kit.{vec_capacity, ◌+◌, ◌≡◌, ◌≤◌, Lines}
use Rattle.ed_run.proofs.Pasts.{Past}
use Rattle.ed_stepper.proofs.tracing.trace_orders.Given as goal

abbrev pub invariant-loop-done : goal.invariant-loop-done
invariant-loop-done g l = record {
  past : Past l.limit l.resumes l.limit l.fn.machine l.done l.machine l.stops;
  lines : Lines l.done l.fn.machine (g.K.Sink.held l.fn.out) (g.K.Sink.held l.out) l.line.items;
  room : vec_capacity l.line ≡ vec_capacity l.fn.line;
  count : l.machine.orders ≤ l.fn.machine.orders + l.done;
  faults : g.K.Sink.faults l.out ≡ g.K.Sink.faults l.fn.out;
}
