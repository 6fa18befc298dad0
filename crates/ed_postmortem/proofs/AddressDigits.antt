-- The digits that are printed of an address.
use Rattle.ed_postmortem.proofs.Kit.{[], ap, arith, inl, inr, List, refl, sym, ℕ, ◌%◌, ◌++◌, ◌+◌, ◌/◌, ◌<◌, ◌∙◌, ◌∷◌}
use Rattle.ed_postmortem.proofs.Kit.{◌≡◌, ◌≤◌, cases_lt, address_digits}
use Rattle.std.proofs.Common.{map}
use Rattle.std.specs.Fmt.{decimal}
use Rattle.std.proofs.lemmas.Fmt.{decimal_digit, decimal_step}
use Rattle.ed_notation.proofs.Parts.{digit_there, no_digit}
use Rattle.ed_postmortem.specs.Codes.{AddressDigitsLaw}

-- a digit after the others
one_more : (n : ℕ) {m d : ℕ} {digits : List ℕ} → 10 ≤ n → n < 2048 → n / 10 ≡ m → n % 10 ≡ d → decimal m ≡ digits
    → decimal n ≡ digits ++ (48 + d) ∷ []
one_more n some small e f is =
    decimal_step n some (omega (arith, small)) ∙ (λ i. (ap decimal e ∙ is) i ++ (48 + f i) ∷ [])

module _ (n : ℕ) (small : n < 2048) where
  of_1 : n < 10 → map (λ d. 48 + d) (address_digits n) ≡ decimal n
  of_1 l =
      let u : n % 10 ≡ n = omega arith in
      rw (no_digit 1000 n (omega arith), no_digit 100 n (omega arith), no_digit 10 n (omega arith), u)
      (sym (decimal_digit n l))

  of_2 : 10 ≤ n → n < 100 → map (λ d. 48 + d) (address_digits n) ≡ decimal n
  of_2 g l =
      let top : n / 10 ≡ n / 10 % 10 = omega arith in
      rw (no_digit 1000 n (omega arith), no_digit 100 n (omega arith), digit_there 10 n g)
      (sym (one_more n g small top refl (decimal_digit (n / 10 % 10) (omega arith))))

  of_3 : 100 ≤ n → n < 1000 → map (λ d. 48 + d) (address_digits n) ≡ decimal n
  of_3 g l =
      let top : n / 10 / 10 ≡ n / 100 % 10 = omega arith in
      rw (no_digit 1000 n l, digit_there 100 n g, digit_there 10 n (omega arith))
      (sym (one_more n (omega arith) small refl refl
      (one_more (n / 10) (omega arith) (omega arith) top refl (decimal_digit (n / 100 % 10) (omega arith)))))

  of_4 : 1000 ≤ n → map (λ d. 48 + d) (address_digits n) ≡ decimal n
  of_4 g =
      let m : n / 10 / 10 ≡ n / 100 = omega arith in
      let top : n / 100 / 10 ≡ n / 1000 % 10 = omega arith in
      rw (digit_there 1000 n g, digit_there 100 n (omega arith), digit_there 10 n (omega arith))
      (sym (one_more n (omega arith) small refl refl (one_more (n / 10) (omega arith) (omega arith) m refl
      (one_more (n / 100) (omega arith) (omega arith) top refl (decimal_digit (n / 1000 % 10) (omega arith))))))

pub address_digits_law : AddressDigitsLaw
address_digits_law n small =
    elim (cases_lt n 10) [
      | inl few ↦ of_1 n small few
      | inr some ↦ elim (cases_lt n 100) [
        | inl few ↦ of_2 n small some few
        | inr more ↦ elim (cases_lt n 1000) [
          | inl few ↦ of_3 n small more few
          | inr many ↦ of_4 n small many
        ]
      ]
    ]
