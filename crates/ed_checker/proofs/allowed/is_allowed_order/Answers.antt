use Rattle.ed_checker.proofs.Kit.{arith}
use Rattle.ed_checker.proofs.allowed.is_allowed_order.Goals as goal

pub returns-in-Some-F : goal.returns-in-Some-F
returns-in-Some-F c = grind arith

pub returns-then-order-value : goal.returns-then-order-value
returns-then-order-value c = grind arith

pub returns-else-order-value : goal.returns-else-order-value
returns-else-order-value c = grind arith

pub returns-in-Some : goal.returns-in-Some
returns-in-Some c = grind arith

pub returns-in-None : goal.returns-in-None
returns-in-None c = grind arith

pub returns-in-None-2 : goal.returns-in-None-2
returns-in-None-2 c = grind arith
