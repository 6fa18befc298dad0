-- The digits of a number in a source: as a word of it, and as rows of its tape.
use Rattle.ed_sources.proofs.Kit.{decimal, row, spells, length-append, map, nat_eq, not, list_all, and_from, and_parts}
use Rattle.ed_sources.proofs.Kit.{ltb-true, length-map, is_digit, row_of, is_run_byte, is_line_byte, eqb-true}
use Rattle.ed_sources.proofs.Kit.{before_units, digits_law, few_digits, tens, [], arith, Bool, inl, inr, length}
use Rattle.ed_sources.proofs.Kit.{List, nat_lt, refl, rules, subst, suc, true, zero, ℕ, ◌%◌, ◌*◌, ◌++◌, ◌+◌, ◌-◌, ◌<◌}
use Rattle.ed_sources.proofs.Kit.{◌==◌, ◌∙◌, ◌∷◌, ◌≡◌, ◌≤◌, lt-ltb, digits, without_zeros, cases_lt}
use Rattle.std.proofs.Common.{fold}
use Rattle.ed_words.specs.Decimals.{value as spelled_value}
use Rattle.ed_routines.specs.Digits.{value_after}
use Rattle.std.proofs.lemmas.Grind.{common_steps}

abbrev pub are_digits : List ℕ → Bool
are_digits ds = list_all (λ d. nat_lt d 10) ds

-- the bytes of digits
abbrev pub written : List ℕ → List ℕ
written ds = map (λ d. 48 + d) ds

-- n numbers from k upwards
abbrev pub numbers : ℕ → ℕ → List ℕ
numbers k zero = []
numbers k (suc n) = k ∷ numbers (k + 1) n

pub list_all-numbers : (test : ℕ → Bool) (k n d : ℕ) → list_all test (numbers k n) ≡ true → k ≤ d → d < k + n → test d
    ≡ true
list_all-numbers test k zero d h low high = absurd (omega arith)
list_all-numbers test k (suc n) d h low high =
    let p = and_parts (test k) (list_all test (numbers (k + 1) n)) h in
    elim (cases_lt k d) [
      | inl l ↦ list_all-numbers test (k + 1) n d p.1 (omega arith) (omega arith)
      | inr g ↦ let e : k ≡ d = omega arith in subst (λ x. test x ≡ true) e p.0
    ]

-- a test that the ten digits pass is passed by all digits
each_passes : (test : ℕ → Bool) → list_all test (numbers 0 10) ≡ true → (ds : List ℕ) → are_digits ds ≡ true
    → list_all test ds ≡ true
each_passes test ten [] h = refl
each_passes test ten (d ∷ ds) h =
    let p = and_parts (nat_lt d 10) (are_digits ds) h in
    let l = ltb-true d 10 p.0 in
    and_from (test d) (list_all test ds) (list_all-numbers test 0 10 d ten (omega arith) (omega arith))
    (each_passes test ten ds p.1)

-- and by their bytes
all_written : (test : ℕ → Bool) (ds : List ℕ) → list_all (λ d. test (48 + d)) ds ≡ true
    → list_all test (written ds) ≡ true
all_written test [] h = refl
all_written test (d ∷ ds) h =
    let p = and_parts (test (48 + d)) (list_all (λ d. test (48 + d)) ds) h in
    and_from (test (48 + d)) (list_all test (written ds)) p.0 (all_written test ds p.1)

-- what a source reads in the bytes of digits
module _ (ds : List ℕ) (are : are_digits ds ≡ true) where
  pub run_bytes : list_all is_run_byte (written ds) ≡ true
  run_bytes = all_written is_run_byte ds (each_passes (λ d. is_run_byte (48 + d)) refl ds are)

  pub digit_bytes : list_all is_digit (written ds) ≡ true
  digit_bytes = all_written is_digit ds (each_passes (λ d. is_digit (48 + d)) refl ds are)

  pub line_bytes : list_all is_line_byte (written ds) ≡ true
  line_bytes = all_written is_line_byte ds (each_passes (λ d. is_line_byte (48 + d)) refl ds are)

  pub row_bytes : list_all (λ b. spells (row_of b)) (written ds) ≡ true
  row_bytes = all_written (λ b. spells (row_of b)) ds (each_passes (λ d. spells (row_of (48 + d))) refl ds are)

  pub no_quotes : list_all (λ b. not (b == 34)) (written ds) ≡ true
  no_quotes = all_written (λ b. not (b == 34)) ds (each_passes (λ d. not (48 + d == 34)) refl ds are)

-- their rows are the digits
rows_from : (ds : List ℕ) → list_all (λ d. nat_eq (row (row_of (48 + d))) d) ds ≡ true
    → map (λ b. row (row_of b)) (written ds) ≡ ds
rows_from [] h = refl
rows_from (d ∷ ds) h =
    let p = and_parts (nat_eq (row (row_of (48 + d))) d) (list_all (λ d. nat_eq (row (row_of (48 + d))) d) ds) h in
    let first = eqb-true (row (row_of (48 + d))) d p.0 in
    let rest = rows_from ds p.1 in
    λ i. first i ∷ rest i

pub rows_are : (ds : List ℕ) → are_digits ds ≡ true → map (λ b. row (row_of b)) (written ds) ≡ ds
rows_are ds are = rows_from ds (each_passes (λ d. nat_eq (row (row_of (48 + d))) d) refl ds are)

-- and their number is that of the digits
value_from : (n : ℕ) (ds : List ℕ) → fold (λ n b. 10 * n + (b - 48)) n (written ds) ≡ value_after n ds
value_from n [] = refl
value_from n (d ∷ ds) = search (rules, value_from (10 * n + d) ds)

-- ---- the digits of a number

more_digits : (xs ys : List ℕ) → are_digits xs ≡ true → are_digits ys ≡ true → are_digits (xs ++ ys) ≡ true
more_digits [] ys p q = q
more_digits (x ∷ xs) ys p q = grind (arith, common_steps)

fewer : (ds : List ℕ) → are_digits ds ≡ true → are_digits (without_zeros ds) ≡ true
fewer [] h = refl
fewer (zero ∷ ds) h = fewer ds h
fewer (suc d ∷ ds) h = h

module _ (n : ℕ) (small : n < 65536) where
  pub are_digits-digits : are_digits (digits n) ≡ true
  are_digits-digits = search (rules, lt-ltb, more_digits, fewer, tens)

  pub decimal_is : written (digits n) ≡ decimal n
  decimal_is = (digits_law n small).written

  pub value_is : spelled_value (written (digits n)) ≡ n
  value_is = value_from 0 (digits n) ∙ (digits_law n small).value_is

  pub few_bytes : length (written (digits n)) ≤ 5
  few_bytes = let e = length-map (digits n) (λ d. 48 + d) in let few = few_digits n in omega (arith, e, few)

-- there is at least one
pub some_digit : (n : ℕ) → 0 < length (digits n)
some_digit n = let e = length-append (before_units n) (n % 10 ∷ []) in omega (arith, e)

-- what a source reads in the bytes of a number
pub ruleset spelled = (are_digits-digits, decimal_is, value_is, few_bytes, line_bytes, run_bytes, digit_bytes)
