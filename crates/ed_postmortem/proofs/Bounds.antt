-- The most codes and orders that print a word, and how long the tape's numbers are.
use Rattle.ed_postmortem.proofs.Kit.{length-append, locations_most, digit_at, digits_of, [], arith, Bool, false, get_or}
use Rattle.ed_postmortem.proofs.Kit.{if◌then◌else◌, length, List, nat_le, suc, true, zero, ℕ, ◌%◌, ◌*◌, ◌++◌, ◌+◌, ◌/◌}
use Rattle.ed_postmortem.proofs.Kit.{◌∷◌, ◌≤◌, address_digits, digits_before_units, is_even, length_code}
use Rattle.ed_postmortem.proofs.Kit.{length_orders, number_in, printed_codes, word_codes, word_orders, words_orders}
use Rattle.ed_postmortem.specs.Answers.{PaperIsEnough}
use Rattle.ed_postmortem.proofs.Digits.{Digits, began, digits_are, one_shown}

-- no word is printed with more than 11 codes
word_few : (w : ℕ) → length (word_codes w) ≤ 11
word_few w =
    let n : ℕ = number_in w in
    let g : Digits n = digits_are n (omega arith) in
    omega (
      arith,
      g.count,
      one_shown false (n / 1000),
      one_shown (began n 1) (n / 100 % 10),
      one_shown (began n 2) (n / 10 % 10),
      length-append (address_digits n) (15 ∷ length_code (is_even w) ∷ 18 ∷ 24 ∷ []),
      length-append (digits_before_units n) (n % 10 ∷ []),
    )

pub few_codes : (count : ℕ) (words : List ℕ) (p : ℕ) → length (printed_codes words p count) ≤ 11 * count
unfolding printed_codes
few_codes zero words p = omega arith
few_codes (suc count) words p =
    omega (
      arith,
      word_few (get_or words p 0),
      few_codes count words (p + 1),
      length-append (word_codes (get_or words p 0)) (printed_codes words (p + 1) count),
    )

pub enough : PaperIsEnough
enough s first count range =
    let behind = range.above in
    let within = range.within in
    omega (arith, few_codes count s.store.words first, locations_most s.size)

-- no word takes more than 257 orders
few_length : (even : Bool) → length_orders even ≤ 2
few_length true = omega arith
few_length false = omega arith

few_orders : (w : ℕ) → word_orders w ≤ 257
few_orders w =
    let n : ℕ = number_in w in
    let g : Digits n = digits_are n (omega arith) in
    omega (
      arith,
      g.sum,
      g.count,
      one_shown false (n / 1000),
      one_shown (began n 1) (n / 100 % 10),
      one_shown (began n 2) (n / 10 % 10),
      few_length (is_even w),
    )

pub all_few : (count : ℕ) (xs : List ℕ) (p : ℕ) → words_orders xs p count ≤ 257 * count
unfolding words_orders
all_few zero xs p = omega arith
all_few (suc count) xs p = omega (arith, few_orders (get_or xs p 0), all_few count xs (p + 1))

-- a number has at most five digits
one_digit : (t : Bool) (d : ℕ) → length (if t then d ∷ [] else []) ≤ 1
one_digit true d = omega arith
one_digit false d = omega arith

pub few_digits : (n : ℕ) → length (digits_of n) ≤ 5
few_digits n =
    omega (
      arith,
      length-append (digit_at 10000 n) (digit_at 1000 n ++ (digit_at 100 n ++ (digit_at 10 n ++ digit_at 1 n))),
      one_digit (nat_le 10000 n) (n / 10000 % 10),
      length-append (digit_at 1000 n) (digit_at 100 n ++ (digit_at 10 n ++ digit_at 1 n)),
      one_digit (nat_le 1000 n) (n / 1000 % 10),
      length-append (digit_at 100 n) (digit_at 10 n ++ digit_at 1 n),
      one_digit (nat_le 100 n) (n / 100 % 10),
      length-append (digit_at 10 n) (digit_at 1 n),
      one_digit (nat_le 10 n) (n / 10 % 10),
      one_digit (nat_le 1 n) (n / 1 % 10),
    )
