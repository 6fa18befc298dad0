use Rattle.ed_sources.proofs.Kit.{arith}
use Rattle.std.proofs.lemmas.Grind.{common_steps}
use Rattle.ed_sources.proofs.filling.filled.Goals as goal

pub loop-gap-preserved : goal.loop-gap-preserved
loop-gap-preserved c = grind (arith, common_steps)

pub returns : goal.returns
returns c = grind (arith, common_steps)
