use Rattle.ed_page.proofs.Kit.{flat_map, drop, ◌++◌, ◌≡◌, four_bytes}
use Rattle.ed_page.proofs.items.push_numbers.Given as goal

-- the bytes so far, and those of the numbers after them
abbrev pub invariant-loop-number : goal.invariant-loop-number
invariant-loop-number l = l.table.items ++ flat_map four_bytes (drop l.number-index l.numbers)
    ≡ l.fn.table.items ++ flat_map four_bytes l.numbers
