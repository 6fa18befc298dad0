use Rattle.ed_stepper.proofs.Kit.{State, state_after, ◌+◌, ◌≡◌, ◌≤◌, AreCheckpoints}
use Rattle.ed_stepper.proofs.Walks.{Walking}
use Rattle.ed_stepper.proofs.walk.walk.Given as goal

abbrev pub invariant-loop-orders : goal.invariant-loop-orders
invariant-loop-orders l = record {
  walking : Walking l.aim l.left l.fn.machine l.orders l.machine;
  count : l.machine.orders ≤ l.fn.machine.orders + l.orders;
  checkpoints : (start : State) → l.fn.machine ≡ state_after l.from start
      → l.fn.machine.orders ≤ start.orders + l.from →
      AreCheckpoints start l.fn.checkpoints.items → AreCheckpoints start l.checkpoints.items;
}
