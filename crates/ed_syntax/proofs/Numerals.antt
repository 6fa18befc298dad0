-- A number in decimal is a number of the source language, and has its value.
use Rattle.ed_syntax.proofs.Kit.{[], ap, arith, refl, true, ℕ, ◌*◌, ◌++◌, ◌+◌, ◌-◌, ◌<◌, ◌^◌, ◌∙◌, ◌∷◌, ◌≡◌, decimal}
use Rattle.ed_syntax.proofs.Kit.{list_all, or-true, and_from, and_parts, le-leb, fold-append, is_digit, value, Text}
use Rattle.ed_syntax.proofs.Kit.{is_run_byte, is_number}
use Rattle.std.proofs.Common.{◌%◌}
use Rattle.std.proofs.lemmas.Fmt.{decimal_by_steps}
use Rattle.ed_syntax.proofs.RunTests.{is_run, each_append}

-- digits of this number
pub record IsNumeral (n : ℕ) (digits : Text) : Type 0 where
  pub number : is_number digits ≡ true
  pub value_is : value digits ≡ n

digit : (d : ℕ) → d < 10 → is_digit (48 + d) ≡ true
digit d lt = rw (le-leb 48 (48 + d) (omega arith), le-leb (48 + d) 57 (omega arith)) refl

number_push : (digits : Text) (b : ℕ) → is_number digits ≡ true → is_digit b ≡ true
    → is_number (digits ++ b ∷ []) ≡ true
number_push [] b e f = absurd (cc)
number_push (d ∷ ds) b e f = each_append is_digit (d ∷ ds) (b ∷ []) e (rw f refl)

pub numeral_of : (n : ℕ) → n < 2 ^ 64 → IsNumeral n (decimal n)
numeral_of = decimal_by_steps IsNumeral
    (λ n lt. record { number = rw (digit n lt) refl; value_is = omega (arith, lt) }) (λ n ds le h. record {
      number = number_push ds _ h.number (digit (n % 10) (omega arith));
      value_is = fold-append (λ m b. 10 * m + (b - 48)) 0 ds ((48 + n % 10) ∷ [])
          ∙ ap (λ (m : ℕ). 10 * m + (48 + n % 10 - 48)) h.value_is ∙ omega arith;
    })

digits_are_run_bytes : (ds : Text) → list_all is_digit ds ≡ true → list_all is_run_byte ds ≡ true
digits_are_run_bytes [] e = refl
digits_are_run_bytes (d ∷ ds) e =
    let p = and_parts (is_digit d) _ e in
    let here = p.0 in
    and_from _ _ (rw here (or-true _)) (digits_are_run_bytes ds p.1)

pub numeral_part : (n : ℕ) (digits : Text) → IsNumeral n digits → is_run digits ≡ true
numeral_part n [] h = let e = h.number in absurd (cc)
numeral_part n (d ∷ ds) h = digits_are_run_bytes (d ∷ ds) h.number
