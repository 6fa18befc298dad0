-- Steps that each obey an order are counted.
use Rattle.ed_machine.proofs.Names.{rules, suc, zero, arith, progress}
use Rattle.ed_machine.specs.Sound.{CountsOrders}
use Rattle.ed_machine.proofs.Keeping.{step_leaves}

-- k orders obeyed are k orders more
pub counted_after : CountsOrders
unfolding progress
counted_after zero s free = omega arith
counted_after (suc k) s free = search (rules, step_leaves, (counted_after k s (λ j h. free j (omega arith))))
