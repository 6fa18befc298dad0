use Rattle.ed_run.proofs.Kit.{false, length, ◌+◌, ◌-◌, ◌≡◌, ◌≤◌, ◌⊎◌, step, prints}
use Rattle.ed_run.proofs.Pasts.{Running}
use Rattle.ed_run.proofs.running.run_orders.Given as goal

abbrev pub invariant-loop-machine : goal.invariant-loop-machine
invariant-loop-machine l = record {
  running : Running l.fn.limit l.fn.resumes l.fn.machine l.fn.paper (l.machine.orders - l.fn.machine.orders)
      l.machine l.paper l.stops;
  later : l.fn.machine.orders ≤ l.machine.orders;
  below : l.machine.orders ≤ l.end;
}

abbrev pub decreases-loop-machine : goal.decreases-loop-machine
decreases-loop-machine l = l.end - l.machine.orders

abbrev pub invariant-loop-batch : goal.invariant-loop-batch
invariant-loop-batch l = record {
  running : Running l.fn.limit l.fn.resumes l.fn.machine l.fn.paper (l.machine.orders - l.fn.machine.orders)
      l.machine l.paper l.stops;
  later : l.fn.machine.orders ≤ l.machine.orders;
  below : l.machine.orders ≤ l.batch_end;
  room : (l.batch_end - l.machine.orders ≤ l.paper.room - length l.paper.codes)
      ⊎ ((l.batch_end ≡ l.machine.orders + 1) × (prints (step l.machine).turn ≡ false));
}

abbrev pub decreases-loop-batch : goal.decreases-loop-batch
decreases-loop-batch l = l.batch_end - l.machine.orders
