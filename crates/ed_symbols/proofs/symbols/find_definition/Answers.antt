use Rattle.ed_symbols.proofs.Kit.{arith, common_steps}
use Rattle.ed_symbols.proofs.symbols.find_definition.Goals as goal

pub returns-then-is_of : goal.returns-then-is_of
returns-then-is_of c = grind (arith, common_steps)

pub loop-definition-preserved : goal.loop-definition-preserved
loop-definition-preserved c = grind (arith, common_steps)

pub returns : goal.returns
returns c = grind (arith, common_steps)
