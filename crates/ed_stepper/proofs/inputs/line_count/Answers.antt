use Rattle.ed_stepper.proofs.Kit.{eqb-true, sym}
use Rattle.ed_stepper.proofs.InputLaws.{HasLineCount-rest}
use Rattle.ed_stepper.proofs.inputs.line_count.Goals as goal

pub returns-clause-is : goal.returns-clause-is
returns-clause-is c =
    HasLineCount-rest c.args.text.now c.loop-rest.rest.now (eqb-true _ 0 (sym c.loop-rest-test.ensures))
    c.loop-rest.invariant.same
