use Rattle.ed_syntax.proofs.Kit.{arith, common_steps}
use Rattle.ed_syntax.proofs.source.are_line_bytes.Goals as goal

pub returns : goal.returns
returns c = grind (arith, common_steps)

pub returns-then-not-matches : goal.returns-then-not-matches
returns-then-not-matches c = grind (arith, common_steps)
