-- What reading the tape of a call costs: that of the words of its numbers, and that of all other items.
use Rattle.ed_sources.proofs.Kit.{sum_by, sum_by-cons, Item, take, punched_items, word_item, item_cost}
use Rattle.ed_sources.proofs.Kit.{arith, drop, List, refl, rules, ℕ, ◌++◌, ◌+◌, ◌∷◌, ◌≡◌, cost, word_cost}
use Rattle.ed_sources.proofs.Said.{check_lines, print_lines}
use Rattle.ed_sources.proofs.SaidMaths.{divide_lines, root_lines}
use Rattle.ed_sources.proofs.WordCosts.{cost_around}
use Rattle.std.proofs.lemmas.Grind.{common_steps}

pub print_cost : (n : ℕ) → cost (print_lines n) ≡ 2289 + word_cost n
print_cost n = grind (arith, common_steps)

pub root_cost : (n : ℕ) → cost (root_lines n) ≡ 3399 + word_cost n
root_cost n = grind (arith, common_steps)

pub check_cost : (n : ℕ) → cost (check_lines n) ≡ 4793 + word_cost n
check_cost n = grind (arith, common_steps)

module _ (high low by : ℕ) where
  abbrev items : List Item
  items = punched_items (divide_lines high low by)

  abbrev front : List Item
  front = take 11 items

  abbrev rest : List Item
  rest = drop 14 items

  parts : items ≡ front ++ word_item high ∷ word_item low ∷ word_item by ∷ rest
  parts = refl

  others : sum_by item_cost front + sum_by item_cost rest ≡ 6559
  others = refl

  pub divide_cost : cost (divide_lines high low by) ≡ 6564 + word_cost high + word_cost low + word_cost by
  divide_cost = search (rules, parts, cost_around, sum_by-cons, others)
