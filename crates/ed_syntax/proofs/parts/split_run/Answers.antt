use Rattle.ed_syntax.proofs.Kit.{arith, common_steps}
use Rattle.ed_syntax.proofs.parts.split_run.Goals as goal

pub returns-then-not-is_run_byte : goal.returns-then-not-is_run_byte
returns-then-not-is_run_byte c = grind (arith, common_steps)

pub loop-place-preserved : goal.loop-place-preserved
loop-place-preserved c = grind (arith, common_steps)

pub returns : goal.returns
returns c = grind (arith, common_steps)
