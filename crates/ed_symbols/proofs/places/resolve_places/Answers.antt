use Rattle.ed_symbols.proofs.Kit.{arith, common_steps}
use Rattle.ed_symbols.proofs.places.resolve_places.Goals as goal

pub loop-line-preserved : goal.loop-line-preserved
loop-line-preserved c = grind (arith, common_steps)

pub returns-clause-positions : goal.returns-clause-positions
returns-clause-positions c = grind (arith, common_steps)

pub returns-clause-symbols : goal.returns-clause-symbols
returns-clause-symbols c = grind (arith, common_steps)
