-- The greatest number of orders that a call of each routine takes.
use Rattle.ed_sources.proofs.Kit.{mod-lt, nat_eq, nat_le, ◌||◌, leb-true, Call, Check, Divide, NewLine, Print, Read}
use Rattle.ed_sources.proofs.Kit.{Root, eqb-true, few_digits, arith, inl, inr, lit<, lit≤, refl, rules, ℕ, ◌*◌}
use Rattle.ed_sources.proofs.Kit.{◌+◌, ◌<◌, ◌≡◌, ◌≤◌, print_orders, root_of, root_is, divide_orders, root_orders}
use Rattle.ed_sources.proofs.Kit.{cases_lt, call_orders, most_call_orders, call_cost, ◌%◌, ◌/◌}
use Rattle.std.proofs.lemmas.Bool.{or_cases}
use Rattle.ed_library.specs.CallRanges.{IsCallInRange}
use Rattle.ed_maths.specs.Quotients.{ones}
use Rattle.ed_maths.proofs.RootCall.{IsRoot-few as below_256}
use Rattle.ed_sources.specs.CallRuns.{EachMostIsTaken}
use Rattle.ed_sources.proofs.Decimals.{list_all-numbers}
use Rattle.ed_sources.proofs.DivideAndPrint.{quotient_low}
use Rattle.ed_sources.proofs.PrintOrders.{digits_long, digits_sum, print_few, sum_few}
use Rattle.ed_sources.proofs.WordCosts.{word_cost_few}

-- the digits of a remainder before its units are 2, 9, 9 and 9 at most
remainder_few : (r : ℕ) → r < 32767 → print_orders r ≤ 326
remainder_few r small = let digits = digits_sum r in let long = digits_long r in omega (arith, digits, long)

-- ---- a quotient with the greatest sum of digits begins with 5999, and then at least 8 of its binary digits are 1

ones_many : (q : ℕ) → 59990 ≤ q → q < 60000 → 8 ≤ ones 16 q
unfolding ones
ones_many q low high = leb-true 8 (ones 16 q) (list_all-numbers (λ k. nat_le 8 (ones 16 k)) 59990 10 q refl low high)

quotient_few : (q : ℕ) → q < 65536 → divide_orders q + print_orders q ≤ 554
quotient_few q small = search (rules, digits_sum, digits_long, sum_few, cases_lt, ones_many)

-- ---- roots

root_few : (r : ℕ) → r < 256 → root_orders r + print_orders r ≤ 2196
root_few r small =
    leb-true (root_orders r + print_orders r) 2196
    (list_all-numbers (λ k. nat_le (root_orders k + print_orders k) 2196) 0 256 r refl (omega arith) small)

root_of_most : root_of 65535 ≡ 255
root_of_most =
    let is = root_is 65535 in
    let r = root_of 65535 in
    let low = below_256 65535 r is (lit< tt) in
    let test =
    list_all-numbers (λ k. nat_eq k 255 || nat_le ((k + 1) * (k + 1)) 65535) 0 256 r refl (omega arith)
    (omega (arith, low)) in
    elim (or_cases (nat_eq r 255) (nat_le ((r + 1) * (r + 1)) 65535) test) [
      | inl same ↦ eqb-true r 255 same
      | inr square ↦
          let high = leb-true ((r + 1) * (r + 1)) 65535 square in
          let above = is.greatest in
          absurd (omega (arith, high, above))
    ]

-- ---- calls

pub most_orders : (call : Call) → IsCallInRange call → call_cost call + call_orders call ≤ most_call_orders call
most_orders (Print n) small = let word = word_cost_few n in let few = print_few n small in omega (arith, word, few)
most_orders (Read n) small = let long = few_digits n in let few = print_few n small in omega (arith, long, few)
most_orders NewLine made = lit≤ tt
most_orders (Divide n by) made =
    let high = word_cost_few (n / 65536) in
    let low = word_cost_few (n % 65536) in
    let divisor = word_cost_few by in
    let quotient = quotient_few (n / by) (quotient_low n by made.positive made.less) in
    let positive : 0 < by = omega (arith, made.positive) in
    let less = mod-lt n positive in
    let divisor_small = made.divisor in
    let remainder = remainder_few (n % by) (omega (arith, less, divisor_small)) in
    omega (arith, high, low, divisor, quotient, remainder)
most_orders (Root n) small =
    let word = word_cost_few n in
    let few = root_few (root_of n) (below_256 n (root_of n) (root_is n) small) in
    omega (arith, word, few)
most_orders (Check n) small =
    let word = word_cost_few n in
    let digit_sum = sum_few n small in
    let long = digits_long n in
    omega (arith, word, digit_sum, long)

pub each_most_is_taken : EachMostIsTaken
unfolding ones
each_most_is_taken = search (rules, root_of_most)
