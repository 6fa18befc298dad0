use Rattle.ed_notation.proofs.Kit.{drop, nat_lt, true, ◌++◌, ◌≡◌, flat_map, list_all, digit_at}
use Rattle.ed_notation.proofs.spelling.push_digits.Given as goal

abbrev pub invariant-loop-power : goal.invariant-loop-power
invariant-loop-power l =
    (l.rows.items ++ flat_map (λ power. digit_at power l.number) (drop l.power-index l.powers)
    ≡ l.fn.rows.items ++ flat_map (λ power. digit_at power l.number) l.powers)
    × (list_all (λ power. nat_lt 0 power) (drop l.power-index l.powers) ≡ true)
