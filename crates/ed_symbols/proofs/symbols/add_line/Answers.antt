use Rattle.ed_symbols.proofs.Kit.{arith, common_steps}
use Rattle.ed_symbols.proofs.symbols.add_line.Goals as goal

pub returns-then-label_again-clause-symbols : goal.returns-then-label_again-clause-symbols
returns-then-label_again-clause-symbols c = grind (arith, common_steps)

pub returns-else-label_again-clause-symbols : goal.returns-else-label_again-clause-symbols
returns-else-label_again-clause-symbols c = grind (arith, common_steps)
