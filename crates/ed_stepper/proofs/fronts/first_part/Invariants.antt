use Rattle.ed_stepper.proofs.Kit.{length, ◌≡◌, parts_between_spaces}
use Rattle.ed_stepper.proofs.fronts.first_part.Given as goal

abbrev pub invariant-loop-rest : goal.invariant-loop-rest
invariant-loop-rest l = parts_between_spaces l.line ≡ parts_between_spaces l.rest

abbrev pub decreases-loop-rest : goal.decreases-loop-rest
decreases-loop-rest l = length l.rest
