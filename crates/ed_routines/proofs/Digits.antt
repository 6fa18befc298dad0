-- What the digits of a number are.
use Rattle.ed_routines.proofs.Kit.{[], arith, inl, inr, length, List, refl, rules, suc, zero, ℕ, ◌%◌, ◌++◌, ◌+◌}
use Rattle.ed_routines.proofs.Kit.{◌/◌, ◌<◌, ◌∙◌, ◌∷◌, ◌≡◌, ◌≤◌, digits, digits_value, without_zeros}
use Rattle.std.proofs.Common.{map}
use Rattle.std.specs.Fmt.{decimal}
use Rattle.std.proofs.lemmas.Bool.{cases_lt}
use Rattle.std.proofs.lemmas.Fmt.{decimal_digit, decimal_step}
use Rattle.ed_routines.specs.Digits.{DigitsLaw}

-- leading zeros make no difference
value_without : (ds : List ℕ) (u : ℕ) → digits_value (without_zeros ds ++ u ∷ []) ≡ digits_value (ds ++ u ∷ [])
value_without [] u = refl
value_without (zero ∷ ds) u = value_without ds u
value_without (suc d ∷ ds) u = refl

-- the digits before the units, with leading zeros
abbrev pub tens : ℕ → List ℕ
tens n = n / 10000 ∷ n / 1000 % 10 ∷ n / 100 % 10 ∷ n / 10 % 10 ∷ []

positive : (q : ℕ) (ds : List ℕ) → 0 < q → without_zeros (q ∷ ds) ≡ q ∷ ds
positive q ds l = grind arith

-- a digit after the others
one_more : (n m d : ℕ) → 10 ≤ n → n < 65536 → n / 10 ≡ m → n % 10 ≡ d → decimal n ≡ decimal m ++ (48 + d) ∷ []
one_more n m d some small e f = decimal_step n some (omega (arith, small)) ∙ (λ i. decimal (e i) ++ (48 + f i) ∷ [])

pub digits_law : DigitsLaw
digits_law n small =
    record {
      value_is = let all : digits_value (tens n ++ n % 10 ∷ []) ≡ n = omega arith in value_without (tens n) _ ∙ all;
      written = by_length;
    }
  where
    by_length : map (λ d. 48 + d) (digits n) ≡ decimal n
    by_length =
        elim (cases_lt n 10) [
          | inl l ↦ search (rules, decimal_digit)
          | inr g ↦ elim (cases_lt n 100) [
            | inl l ↦ search (rules, positive, one_more, decimal_digit)
            | inr g ↦ elim (cases_lt n 1000) [
              | inl l ↦ search (rules, positive, one_more, decimal_digit)
              | inr g ↦ elim (cases_lt n 10000) [
                | inl l ↦ search (rules, positive, one_more, decimal_digit)
                | inr g ↦ search (rules, positive, one_more, decimal_digit)
              ]
            ]
          ]
        ]

pub few_digits : (n : ℕ) → length (digits n) ≤ 5
few_digits n = search rules
