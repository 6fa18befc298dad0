use Rattle.ed_maths.proofs.Kit.{◌*◌, ◌≤◌}
use Rattle.ed_maths.proofs.square.root_of.Given as goal

abbrev pub invariant-loop-root : goal.invariant-loop-root
invariant-loop-root l = l.root * l.root ≤ l.fn.number
