use Rattle.ed_stepper.proofs.Kit.{vec_capacity, state_after, ◌++◌, ◌+◌, ◌≡◌, ◌≤◌, functions_after}
use Rattle.std.proofs.Common.{vec_len}
use Rattle.ed_stepper.proofs.session.list_functions.Given as goal

abbrev pub invariant-loop-done : goal.invariant-loop-done
invariant-loop-done l = record {
  is : l.machine ≡ state_after l.done l.fn.machine;
  count : l.machine.orders ≤ l.fn.machine.orders + l.done;
  listed : l.functions.items ≡ l.fn.functions.items ++ functions_after l.done l.fn.machine;
  few : vec_len l.functions ≡ vec_len l.fn.functions + l.done;
  room : vec_capacity l.functions ≡ vec_capacity l.fn.functions;
}
