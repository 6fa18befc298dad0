use Rattle.ed_syntax.proofs.Kit.{arith, common_steps}
use Rattle.ed_syntax.proofs.terms.is_number.Goals as goal

pub returns : goal.returns
returns c = grind (arith, common_steps)

pub returns-then-not-is_ascii_digit : goal.returns-then-not-is_ascii_digit
returns-then-not-is_ascii_digit c = grind (arith, common_steps)
