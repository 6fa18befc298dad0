use Rattle.ed_symbols.proofs.Kit.{arith, common_steps}
use Rattle.ed_symbols.proofs.faults.settings_cause.Goals as goal

pub loop-setting-preserved : goal.loop-setting-preserved
loop-setting-preserved c = grind (arith, common_steps)

pub returns-then-is_none : goal.returns-then-is_none
returns-then-is_none c = grind (arith, common_steps)

pub returns-then-outside : goal.returns-then-outside
returns-then-outside c = grind (arith, common_steps)

pub returns-else-outside : goal.returns-else-outside
returns-else-outside c = grind (arith, common_steps)
