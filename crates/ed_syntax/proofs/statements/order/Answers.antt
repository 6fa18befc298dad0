use Rattle.ed_syntax.proofs.Kit.{arith, common_steps}
use Rattle.ed_syntax.proofs.statements.order.Goals as goal

pub returns-in-Some-Some-default : goal.returns-in-Some-Some-default
returns-in-Some-Some-default c = grind (arith, common_steps)

pub returns-in-Some-None-default : goal.returns-in-Some-None-default
returns-in-Some-None-default c = grind (arith, common_steps)

pub returns-in-None : goal.returns-in-None
returns-in-None c = grind (arith, common_steps)
