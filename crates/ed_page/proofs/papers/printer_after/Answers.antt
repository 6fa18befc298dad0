use Rattle.ed_page.proofs.Kit.{common_steps, arith}
use Rattle.ed_page.proofs.papers.printer_after.Goals.{then-code-eq-FIGURE_SHIFT-via-then-code-eq-FIGURE_SHIFT}
use Rattle.ed_page.proofs.papers.printer_after.Goals.{then-code-eq-FIGURE_SHIFT-via-else-code-eq-FIGURE_SHIFT+then-code-eq-LETTER_SHIFT}
use Rattle.ed_page.proofs.papers.printer_after.Goals as goal

pub loop-code-preserved : goal.loop-code-preserved
loop-code-preserved c = grind (arith, common_steps)

pub returns-then-code-eq-FIGURE_SHIFT : goal.returns-then-code-eq-FIGURE_SHIFT
returns-then-code-eq-FIGURE_SHIFT c = grind (arith, common_steps)
