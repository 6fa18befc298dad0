use Rattle.ed_syntax.proofs.Kit.{arith, common_steps}
use Rattle.ed_writer.proofs.statements.push_order.Goals as goal

pub returns : goal.returns
returns c = grind (arith, common_steps)
