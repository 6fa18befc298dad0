use Rattle.ed_syntax.proofs.Kit.{arith, common_steps}
use Rattle.ed_writer.proofs.operands.push_settings.Goals as goal

pub loop-setting-preserved : goal.loop-setting-preserved
loop-setting-preserved c = grind (arith, common_steps)

pub returns : goal.returns
returns c = grind (arith, common_steps)
