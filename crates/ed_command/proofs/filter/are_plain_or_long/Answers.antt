use Rattle.ed_command.proofs.Kit.{common_steps, arith}
use Rattle.ed_command.proofs.filter.are_plain_or_long.Goals as goal

pub returns-then-not-is_plain_or_long : goal.returns-then-not-is_plain_or_long
returns-then-not-is_plain_or_long c = grind (arith, common_steps)

pub loop-word-preserved : goal.loop-word-preserved
loop-word-preserved c = grind (arith, common_steps)

pub returns : goal.returns
returns c = grind (arith, common_steps)
