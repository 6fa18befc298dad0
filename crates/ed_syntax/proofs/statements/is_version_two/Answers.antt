use Rattle.ed_syntax.proofs.Kit.{arith, common_steps}
use Rattle.ed_syntax.proofs.statements.is_version_two.Goals as goal

pub returns-else-is : goal.returns-else-is
returns-else-is c = grind (arith, common_steps)

pub returns-in-Ok-eq2 : goal.returns-in-Ok-eq2
returns-in-Ok-eq2 c = grind (arith, common_steps)

pub returns-in_default : goal.returns-in_default
returns-in_default c = grind (arith, common_steps)

pub returns-in_default-2 : goal.returns-in_default-2
returns-in_default-2 c = grind (arith, common_steps)

pub returns-in_default-3 : goal.returns-in_default-3
returns-in_default-3 c = grind (arith, common_steps)

pub returns-in_default-4 : goal.returns-in_default-4
returns-in_default-4 c = grind (arith, common_steps)

pub returns-in_default-matches : goal.returns-in_default-matches
returns-in_default-matches c = grind (arith, common_steps)

pub returns-in_default-matches-2 : goal.returns-in_default-matches-2
returns-in_default-matches-2 c = grind (arith, common_steps)
