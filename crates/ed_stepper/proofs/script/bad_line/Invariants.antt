use Rattle.ed_stepper.proofs.Kit.{length, ◌≡◌, ◌≤◌, lines_of, bad_from, bad_line}
use Rattle.ed_stepper.proofs.script.bad_line.Given as goal

abbrev pub invariant-loop-rest : goal.invariant-loop-rest
invariant-loop-rest l = record {
  same : bad_line l.script ≡ bad_from l.number (lines_of l.rest);
  few : l.number ≤ 1001;
}

abbrev pub decreases-loop-rest : goal.decreases-loop-rest
decreases-loop-rest l = length l.rest
