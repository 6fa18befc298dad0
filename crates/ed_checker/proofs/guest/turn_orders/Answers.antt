use Rattle.ed_checker.proofs.Kit.{arith, nat_tests}
use Rattle.ed_checker.proofs.guest.turn_orders.Goals as goal

pub returns-in_default : goal.returns-in_default
returns-in_default c = grind (arith, nat_tests)

pub returns-in_default-2 : goal.returns-in_default-2
returns-in_default-2 c = grind (arith, nat_tests)

pub returns-in-0-to-2 : goal.returns-in-0-to-2
returns-in-0-to-2 c = grind (arith, nat_tests)

pub returns-in-0-to-2-2 : goal.returns-in-0-to-2-2
returns-in-0-to-2-2 c = grind (arith, nat_tests)
