use Rattle.ed_syntax.proofs.Kit.{arith, common_steps}
use Rattle.ed_syntax.proofs.statements.order_end.Goals as goal

pub returns : goal.returns
returns c = grind (arith, common_steps)

pub returns-in-None : goal.returns-in-None
returns-in-None c = grind (arith, common_steps)

pub returns-in_err-length : goal.returns-in_err-length
returns-in_err-length c = grind (arith, common_steps)
