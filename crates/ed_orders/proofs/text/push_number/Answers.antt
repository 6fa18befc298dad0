use Rattle.ed_orders.proofs.Kit.{arith, length, ◌≤◌}
use Rattle.ed_orders.proofs.Numerals.{four_digits}
use Rattle.ed_orders.proofs.text.push_number.Goals as goal

pub push_str-requires : goal.push_str-requires
push_str-requires c =
    let few : length c.format.result.now ≤ 4 =
    rw c.format.ensures.text (four_digits c.args.number c.requires.few) in (omega arith, omega arith)
