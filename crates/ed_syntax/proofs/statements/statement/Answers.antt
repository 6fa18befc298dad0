use Rattle.ed_syntax.proofs.Kit.{arith, common_steps}
use Rattle.ed_syntax.proofs.Faults.{no_string, string_read}
use Rattle.ed_syntax.proofs.statements.statement.Goals as goal

pub returns-in_default : goal.returns-in_default
returns-in_default c = grind (arith, common_steps)

pub returns-then-is : goal.returns-then-is
returns-then-is c = grind (arith, common_steps)

pub returns-in-Some : goal.returns-in-Some
returns-in-Some c = grind (arith, common_steps, string_read)

pub returns-in-None : goal.returns-in-None
returns-in-None c = grind (arith, common_steps, no_string)
