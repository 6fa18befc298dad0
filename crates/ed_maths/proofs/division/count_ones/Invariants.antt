use Rattle.ed_maths.proofs.Kit.{◌+◌, ◌-◌, ◌≡◌, ◌≤◌, ones}
use Rattle.ed_maths.proofs.division.count_ones.Given as goal

abbrev pub invariant-loop-done : goal.invariant-loop-done
invariant-loop-done l = record {
  sum : l.sum + ones (16 - l.done) l.rest ≡ ones 16 l.fn.number;
  few : l.sum ≤ l.done;
}
