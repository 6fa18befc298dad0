use Rattle.ed_syntax.proofs.Kit.{arith, common_steps}
use Rattle.ed_writer.proofs.operands.push_operand.Goals as goal

pub returns-after-plus-lt0 : goal.returns-after-plus-lt0
returns-after-plus-lt0 c = grind (arith, common_steps)

pub returns-after-minus : goal.returns-after-minus
returns-after-minus c = grind (arith, common_steps)
