use Rattle.ed_report.proofs.Kit.{arith, common_steps}
use Rattle.ed_report.proofs.library.push_parameters.Goals as goal

pub loop-letter-preserved : goal.loop-letter-preserved
loop-letter-preserved c = grind (arith, common_steps)

pub returns : goal.returns
returns c = grind (arith, common_steps)
