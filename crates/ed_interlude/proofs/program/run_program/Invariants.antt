use Rattle.ed_interlude.proofs.Kit.{◌+◌, ◌≤◌}
use Rattle.ed_interlude.proofs.Programs.{Running}
use Rattle.ed_interlude.proofs.program.run_program.Given as goal

abbrev pub invariant-loop-done : goal.invariant-loop-done
invariant-loop-done l = record {
  running : Running l.left l.fn.machine l.done l.machine;
  orders : l.machine.orders ≤ l.fn.machine.orders + l.done;
}
