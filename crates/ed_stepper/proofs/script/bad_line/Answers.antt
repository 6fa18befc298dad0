use Rattle.ed_stepper.proofs.Kit.{arith, None, Some, ◌≡◌, bad_line, common_steps}
use Rattle.ed_stepper.proofs.ScriptLaws.{bad_line_is, one_meaning}
use Rattle.ed_stepper.proofs.script.bad_line.Goals as goal

pub returns-then-number-eq-TOO_MANY-clause-is : goal.returns-then-number-eq-TOO_MANY-clause-is
returns-then-number-eq-TOO_MANY-clause-is c =
    let found : bad_line c.args.script.now ≡ Some c.loop-rest.number = grind (arith, common_steps) in
    bad_line_is c.args.script.now (Some c.loop-rest.number) found

pub returns-clause-is : goal.returns-clause-is
returns-clause-is c =
    let found : bad_line c.args.script.now ≡ None = grind (arith, common_steps) in
    bad_line_is c.args.script.now None found

pub returns-then-number-eq-TOO_MANY-clause-one : goal.returns-then-number-eq-TOO_MANY-clause-one
returns-then-number-eq-TOO_MANY-clause-one c = one_meaning

pub returns-clause-one : goal.returns-clause-one
returns-clause-one c = one_meaning
