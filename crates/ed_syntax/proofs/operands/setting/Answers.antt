use Rattle.ed_syntax.proofs.Kit.{arith, common_steps}
use Rattle.ed_syntax.proofs.operands.setting.Goals as goal

pub returns-in_default : goal.returns-in_default
returns-in_default c = grind (arith, common_steps)

pub returns-in_default-split_first : goal.returns-in_default-split_first
returns-in_default-split_first c = grind (arith, common_steps)
