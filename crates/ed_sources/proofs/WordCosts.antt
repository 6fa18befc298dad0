-- What reading the item of a word costs: 23 orders, and 9 for each digit of its address.
use Rattle.ed_sources.proofs.Kit.{sum_by, Item, nat_eq, item_with, item_cost, arith, Bool, false, length, List}
use Rattle.ed_sources.proofs.Kit.{true, ℕ, ◌%◌, ◌*◌, ◌++◌, ◌+◌, ◌/◌, ◌<◌, ◌∷◌, ◌≡◌, ◌≤◌, word_cost}
use Rattle.ed_notation.proofs.Kit.{digits_of}
use Rattle.ed_link.specs.Punch.{ending}
use Rattle.std.proofs.lemmas.Grind.{common_steps}

pub four_digits : (n : ℕ) → n < 10000 → length (digits_of n) ≤ 4
four_digits n small = grind (arith, common_steps)

pub two_digits : (n : ℕ) → n < 100 → length (digits_of n) ≤ 2
two_digits n small = grind (arith, common_steps)

pub item_cost-ending : (f n : ℕ) (long : Bool)
    → item_cost (item_with f n false (ending long)) ≡ 23 + 9 * length (digits_of n)
item_cost-ending f n true = omega arith
item_cost-ending f n false = omega arith

pub word_cost_is : (w : ℕ) → word_cost w ≡ 23 + 9 * length (digits_of (w % 4096 / 2))
word_cost_is w = item_cost-ending (w / 4096) (w % 4096 / 2) (nat_eq (w % 2) 1)

pub word_cost_few : (w : ℕ) → word_cost w ≤ 59
word_cost_few w =
    let is = word_cost_is w in let few = four_digits (w % 4096 / 2) (omega arith) in omega (arith, is, few)

-- the cost of items with one among them
pub cost_around : (front : List Item) (i : Item) (rest : List Item)
    → sum_by item_cost (front ++ i ∷ rest) ≡ sum_by item_cost front + item_cost i + sum_by item_cost rest
cost_around front i rest = grind (arith, common_steps)
