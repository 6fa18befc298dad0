use Rattle.ed_stepper.proofs.Kit.{length}
use Rattle.ed_stepper.proofs.Plays.{Playing}
use Rattle.ed_stepper.proofs.script.run_script.Given as goal

abbrev pub invariant-loop-rest : goal.invariant-loop-rest
invariant-loop-rest l = Playing l.script l.fn.session l.line l.rest l.text.items l.session

abbrev pub decreases-loop-rest : goal.decreases-loop-rest
decreases-loop-rest l = length l.rest
