use Rattle.ed_machine.proofs.Names.{◌+◌, ◌≡◌, ◌≤◌, state_after}
use Rattle.ed_machine.proofs.machine.Machine.obey_next.Given as goal

abbrev pub invariant-loop-done : goal.invariant-loop-done
invariant-loop-done l = record {
  state : l.self ≡ state_after l.done l.fn.self;
  orders : l.self.orders ≤ l.fn.self.orders + l.done;
}
