use Rattle.ed_page.proofs.Kit.{common_steps, arith}
use Rattle.ed_page.proofs.texts.row_codes.Goals as goal

pub loop-row-preserved : goal.loop-row-preserved
loop-row-preserved c = grind (arith, common_steps)

pub returns : goal.returns
returns c = grind (arith, common_steps)
