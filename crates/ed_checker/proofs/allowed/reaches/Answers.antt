use Rattle.ed_checker.proofs.Kit.{arith}
use Rattle.ed_checker.proofs.allowed.reaches.Goals as goal

pub returns-then-is_outside : goal.returns-then-is_outside
returns-then-is_outside c = grind arith

pub returns-else-is_outside : goal.returns-else-is_outside
returns-else-is_outside c = grind arith

pub returns-else-order : goal.returns-else-order
returns-else-order c = grind arith
