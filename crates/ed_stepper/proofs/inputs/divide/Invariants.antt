use Rattle.ed_stepper.proofs.Kit.{length}
use Rattle.ed_stepper.proofs.Divisions.{Stands}
use Rattle.ed_stepper.proofs.inputs.divide.Given as goal

abbrev pub invariant-loop-rest : goal.invariant-loop-rest
invariant-loop-rest l = Stands l.input l.rest

abbrev pub decreases-loop-rest : goal.decreases-loop-rest
decreases-loop-rest l = length l.rest
