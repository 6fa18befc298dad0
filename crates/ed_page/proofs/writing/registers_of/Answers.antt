use Rattle.ed_page.proofs.Kit.{common_steps, arith}
use Rattle.ed_page.proofs.writing.registers_of.Goals as goal

pub returns-clause-registers : goal.returns-clause-registers
returns-clause-registers c = grind (arith, common_steps)
