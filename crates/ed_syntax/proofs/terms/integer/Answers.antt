use Rattle.ed_syntax.proofs.Kit.{arith, common_steps, ints}
use Rattle.ed_syntax.proofs.terms.integer.Goals as goal

pub overflow_cast-result : goal.overflow_cast-result
overflow_cast-result c = omega (arith, c.in_ok-number.ensures.within)

pub overflow_cast-result-2 : goal.overflow_cast-result-2
overflow_cast-result-2 c = omega (arith, c.in_ok-number-2.ensures.within)

pub overflow_sub-result : goal.overflow_sub-result
overflow_sub-result c = omega (arith, ints, c.in_ok-number-2.ensures.within)

pub returns : goal.returns
returns c = grind (arith, common_steps)

pub returns-in-Run : goal.returns-in-Run
returns-in-Run c = grind (arith, common_steps)

pub returns-in_default-parts : goal.returns-in_default-parts
returns-in_default-parts c = grind (arith, common_steps)

pub returns-in_default-parts-2 : goal.returns-in_default-parts-2
returns-in_default-parts-2 c = grind (arith, common_steps)

pub returns-in_default-parts-3 : goal.returns-in_default-parts-3
returns-in_default-parts-3 c = grind (arith, common_steps)

pub returns-in_default-parts-4 : goal.returns-in_default-parts-4
returns-in_default-parts-4 c = grind (arith, common_steps)

pub returns-in_default-parts-5 : goal.returns-in_default-parts-5
returns-in_default-parts-5 c = grind (arith, common_steps)

pub returns-in_err-number : goal.returns-in_err-number
returns-in_err-number c = grind (arith, common_steps)

pub returns-in_err-number-2 : goal.returns-in_err-number-2
returns-in_err-number-2 c = grind (arith, common_steps)
