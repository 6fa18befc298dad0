use Rattle.ed_orders.proofs.Kit.{arith, ◌<◌}
use Rattle.ed_orders.proofs.Letters.{letter_ascii}
use Rattle.ed_orders.proofs.text.function_letter.Goals as goal

pub returns-clause-ascii : goal.returns-clause-ascii
returns-clause-ascii c =
    let small : c.unwrap-code.result < 32 = omega arith
    in rw c.byte_of.ensures.is (letter_ascii c.unwrap-code.result small)
