use Rattle.ed_report.proofs.Kit.{arith, common_steps}
use Rattle.ed_report.proofs.lines.listing.Goals as goal

pub loop-place-preserved : goal.loop-place-preserved
loop-place-preserved c = grind (arith, common_steps)

pub returns : goal.returns
returns c = grind (arith, common_steps)
