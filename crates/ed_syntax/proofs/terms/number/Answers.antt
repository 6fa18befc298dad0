use Rattle.ed_syntax.proofs.Kit.{arith, rules, common_steps}
use Rattle.ed_syntax.proofs.Numbers.{out_of_range, too_large}
use Rattle.ed_syntax.proofs.terms.number.Goals as goal

pub returns-then-value-most-clause-is : goal.returns-then-value-most-clause-is
returns-then-value-most-clause-is c = search (rules, out_of_range, too_large)

pub loop-digit-preserved : goal.loop-digit-preserved
loop-digit-preserved c = grind (arith, common_steps)

pub returns-clause-is : goal.returns-clause-is
returns-clause-is c = grind (arith, common_steps)
