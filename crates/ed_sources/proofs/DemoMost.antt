-- The greatest number of orders that a `demo` takes is that of `demo 112`.
use Rattle.ed_sources.proofs.Kit.{sum_by, sum_by-cons, nat_le, leb-true, arith, cases_lt, inl, inr, refl, suc, zero}
use Rattle.ed_sources.proofs.Kit.{ℕ, ◌%◌, ◌*◌, ◌+◌, ◌/◌, ◌<◌, ◌≤◌, demo_cost, false, item_cost, item_with, next, number_word, word_cost}
use Rattle.ed_sources.proofs.Kit.{words_after}
use Rattle.ed_sources.specs.Costs.{heads_cost}
use Rattle.ed_sources.specs.DemoRuns.{LastDemoIsLongest, demo_orders, most_demo_orders}
use Rattle.ed_sources.specs.DemoSources.{demo_sum}
use Rattle.ed_sources.proofs.Decimals.{list_all-numbers}
use Rattle.ed_sources.proofs.DemoEnds.{sum_small}
use Rattle.ed_sources.proofs.PrintOrders.{print_few}
use Rattle.ed_sources.proofs.WordCosts.{four_digits, item_cost-ending, two_digits, word_cost_is}

-- a word of `demo` is below 64, so its address has two digits at most
word_cost_below_64 : (w : ℕ) → w < 64 → word_cost w ≤ 41
word_cost_below_64 w small =
    let is = word_cost_is w in let few = two_digits (w % 4096 / 2) (omega arith) in omega (arith, is, few)

words_few : (n x : ℕ) → sum_by word_cost (words_after n x) ≤ 41 * n
words_few zero x = omega arith
words_few (suc n) x =
    let word = word_cost_below_64 (number_word (next x)) (omega arith) in
    let both = sum_by-cons word_cost (number_word (next x)) (words_after n (next x)) in
    let others = words_few n (next x) in
    omega (arith, word, both, others)

heads_few : (n m base : ℕ) → n ≤ m → heads_cost n base ≤ heads_cost m base
heads_few zero m base less = omega arith
heads_few (suc n) zero base less = absurd (omega arith)
heads_few (suc n) (suc m) base less = let others = heads_few n m (base + 8) (omega arith) in omega (arith, others)

stop_few : (n : ℕ) → n < 105 → item_cost (item_with 28 (123 + 8 * n) false 17) ≤ 59
stop_few n small =
    let is = item_cost-ending 28 (123 + 8 * n) false in
    let few = four_digits (123 + 8 * n) (omega arith) in
    omega (arith, is, few)

-- up to `demo 104` each word may have two digits; the others are counted
pub demo_few : (n : ℕ) → 1 ≤ n → n ≤ 112 → demo_cost n + demo_orders n ≤ most_demo_orders
demo_few n some few = elim (cases_lt n 105) [
  | inl l ↦
      let words = words_few (8 * n) n in
      let heads = heads_few n 104 123 (omega arith) in
      let all_heads : heads_cost 104 123 ≤ 8400 = leb-true (heads_cost 104 123) 8400 refl in
      let stop = stop_few n l in
      let print = print_few (demo_sum n) (sum_small n few) in
      omega (arith, words, heads, all_heads, stop, print)
  | inr g ↦
      leb-true (demo_cost n + demo_orders n) most_demo_orders
      (list_all-numbers (λ k. nat_le (demo_cost k + demo_orders k) most_demo_orders) 105 8 n refl g (omega arith))
]

pub last_demo_is_longest : LastDemoIsLongest
last_demo_is_longest = refl
