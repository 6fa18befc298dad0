use Rattle.ed_syntax.proofs.Kit.{arith, common_steps}
use Rattle.ed_syntax.proofs.statements.length_end.Goals as goal

pub returns-in-68 : goal.returns-in-68
returns-in-68 c = grind (arith, common_steps)

pub returns-in-70 : goal.returns-in-70
returns-in-70 c = grind (arith, common_steps)

pub returns-in_default : goal.returns-in_default
returns-in_default c = grind (arith, common_steps)

pub returns-in_default-2 : goal.returns-in_default-2
returns-in_default-2 c = grind (arith, common_steps)

pub returns-in_default-3 : goal.returns-in_default-3
returns-in_default-3 c = grind (arith, common_steps)

pub returns-in_default-letter : goal.returns-in_default-letter
returns-in_default-letter c = grind (arith, common_steps)
