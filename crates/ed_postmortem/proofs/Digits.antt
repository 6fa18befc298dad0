-- What the post-mortem prints of a number's digits before its units, and what each digit's printing leaves.
use Rattle.ed_postmortem.proofs.Kit.{begun, shown, length-append, digit_at, [], ap, arith, Bool, false, if◌then◌else◌}
use Rattle.ed_postmortem.proofs.Kit.{length, List, nat_le, nat_lt, refl, suc, sym, true, zero, ℕ, ◌%◌, ◌++◌, ◌+◌, ◌/◌}
use Rattle.ed_postmortem.proofs.Kit.{◌<◌, ◌∙◌, ◌∷◌, ◌≡◌, ◌≤◌, nat_tests, digits_before_units}
use Rattle.std.proofs.Common.{◌||◌}
use Rattle.ed_postmortem.specs.Codes.{digit_sum}

-- what is printed of the digits are the digits shown
is_begun : (b : Bool) (q : ℕ) → begun b q ≡ (b || nat_lt 0 q)
is_begun false zero = refl
is_begun false (suc q) = grind (arith, nat_tests)
is_begun true q = refl

is_shown : (b : Bool) (q : ℕ) → shown b q ≡ (if begun b q then q ∷ [] else [])
is_shown false zero = refl
is_shown false (suc q) = refl
is_shown true q = refl

sum_shown : (b : Bool) (q : ℕ) → digit_sum (shown b q) ≡ q
sum_shown false zero = refl
sum_shown false (suc q) = omega arith
sum_shown true q = omega arith

sum_append : (xs ys : List ℕ) → digit_sum (xs ++ ys) ≡ digit_sum xs + digit_sum ys
sum_append [] ys = omega arith
sum_append (x ∷ xs) ys = omega (arith, sum_append xs ys)

-- a digit is at most one code
pub one_shown : (b : Bool) (q : ℕ) → length (shown b q) ≤ 1
one_shown false zero = omega arith
one_shown false (suc q) = omega arith
one_shown true q = omega arith

-- whether one of the first k digits of a number was printed
abbrev pub began : ℕ → ℕ → Bool
began n zero = false
began n (suc zero) = begun false (n / 1000)
began n (suc (suc zero)) = begun (begun false (n / 1000)) (n / 100 % 10)
began n k = begun (begun (begun false (n / 1000)) (n / 100 % 10)) (n / 10 % 10)

-- what is printed of the three, the sum of their digits, and how many are printed
pub record Digits (n : ℕ) : Type 0 where
  pub are : shown false (n / 1000) ++ (shown (began n 1) (n / 100 % 10) ++ shown (began n 2) (n / 10 % 10))
      ≡ digits_before_units n
  pub sum : n / 1000 + n / 100 % 10 + n / 10 % 10 ≡ digit_sum (digits_before_units n)
  pub count : length (shown false (n / 1000)) + length (shown (began n 1) (n / 100 % 10))
      + length (shown (began n 2) (n / 10 % 10))
      ≡ length (digits_before_units n)

digit_is : (p n q : ℕ) (b : Bool) → begun b q ≡ nat_le p n → q ≡ n / p % 10
    → (shown b q ≡ digit_at p n) × (digit_sum (digit_at p n) ≡ q)
digit_is p n q b e s =
    let is : shown b q ≡ digit_at p n = is_shown b q ∙ rw (e, s) refl in (is, ap digit_sum (sym is) ∙ sum_shown b q)

pub digits_are : (n : ℕ) → n < 10000 → Digits n
digits_are n low =
    let begun1 : began n 1 ≡ nat_le 1000 n = is_begun false (n / 1000) ∙ grind (arith, nat_tests) in
    let begun2 : began n 2 ≡ nat_le 100 n = is_begun (began n 1) (n / 100 % 10)
    ∙ rw begun1 (grind (arith, nat_tests)) in
    let begun3 : began n 3 ≡ nat_le 10 n = is_begun (began n 2) (n / 10 % 10) ∙ rw begun2 (grind (arith, nat_tests)) in
    let d1 = digit_is 1000 n (n / 1000) false begun1 (omega arith) in
    let d2 = digit_is 100 n (n / 100 % 10) (began n 1) begun2 refl in
    let d3 = digit_is 10 n (n / 10 % 10) (began n 2) begun3 refl in
    let front = digit_at 100 n ++ digit_at 10 n in
    record {
      are = rw (d1.0, d2.0, d3.0) refl;
      sum =
          let all = sum_append (digit_at 1000 n) front in
          omega (arith, d1.1, d2.1, d3.1, all, sum_append (digit_at 100 n) (digit_at 10 n));
      count = rw (d1.0, d2.0, d3.0)
          (omega (arith, length-append (digit_at 1000 n) front, length-append (digit_at 100 n) (digit_at 10 n)));
    }
