use Rattle.ed_syntax.proofs.Kit.{arith, common_steps}
use Rattle.ed_syntax.proofs.parts.split_quote.Goals as goal

pub returns-then-byte-eq34-clause-some : goal.returns-then-byte-eq34-clause-some
returns-then-byte-eq34-clause-some c = grind (arith, common_steps)

pub loop-place-preserved : goal.loop-place-preserved
loop-place-preserved c = grind (arith, common_steps)

pub returns-clause-none : goal.returns-clause-none
returns-clause-none c = grind (arith, common_steps)
