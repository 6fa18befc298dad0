use Rattle.ed_stepper.proofs.Kit.{length, ◌+◌, ◌≡◌, ◌≤◌, lines_of}
use Rattle.ed_stepper.proofs.inputs.line_count.Given as goal

-- the lines so far and those that are left
abbrev pub invariant-loop-rest : goal.invariant-loop-rest
invariant-loop-rest l = record {
  same : l.count + length (lines_of l.rest) ≡ length (lines_of l.text);
  few : l.count + length l.rest ≤ length l.text;
}

abbrev pub decreases-loop-rest : goal.decreases-loop-rest
decreases-loop-rest l = length l.rest
