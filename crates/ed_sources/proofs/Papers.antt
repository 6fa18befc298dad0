-- What the teleprinter makes of the digits of a number.
use Rattle.ed_sources.proofs.Kit.{decimal, and_parts, ltb-true, append-nil, [], ap, List, nat_lt, refl, rules, sym}
use Rattle.ed_sources.proofs.Kit.{true, ℕ, ◌++◌, ◌+◌, ◌<◌, ◌∙◌, ◌∷◌, ◌≡◌, digits, paper}
use Rattle.ed_printer.specs.Paper.{paper_from}
use Rattle.ed_printer.specs.declared.printer.Shift.TheVariants.{Figures}
use Rattle.ed_sources.proofs.Decimals.{are_digits-digits, are_digits, decimal_is, written}

digit_struck : (d : ℕ) (rest : List ℕ) → d < 10 → paper_from Figures (d ∷ rest) ≡ (48 + d) ∷ paper_from Figures rest
digit_struck d rest l = search rules

digits_struck : (ds rest : List ℕ) → are_digits ds ≡ true
    → paper_from Figures (ds ++ rest) ≡ written ds ++ paper_from Figures rest
digits_struck [] rest h = refl
digits_struck (d ∷ ds) rest h =
    let p = and_parts (nat_lt d 10) (are_digits ds) h in
    digit_struck d (ds ++ rest) (ltb-true d 10 p.0) ∙ ap (λ (x : List ℕ). (48 + d) ∷ x) (digits_struck ds rest p.1)

-- after a figure shift they are the number in decimal, whatever is printed after them
pub number_shown : (n : ℕ) → n < 65536 → (rest : List ℕ)
    → paper_from Figures (11 ∷ digits n ++ rest) ≡ decimal n ++ paper_from Figures rest
number_shown n small rest = digits_struck (digits n) rest (are_digits-digits n small)
    ∙ ap (λ (x : List ℕ). x ++ paper_from Figures rest) (decimal_is n small)

pub digits_printed : (n : ℕ) → n < 65536 → paper (11 ∷ digits n) ≡ decimal n
digits_printed n small =
    ap (λ (x : List ℕ). paper (11 ∷ x)) (sym (append-nil (digits n))) ∙ number_shown n small [] ∙ append-nil (decimal n)

-- two numbers, each on a line of its own
pub lines_printed : (n m : ℕ) → n < 65536 → m < 65536
    → paper (11 ∷ digits n ++ 18 ∷ 24 ∷ 11 ∷ digits m) ≡ decimal n ++ 13 ∷ 10 ∷ decimal m
lines_printed n m small few = search (rules, number_shown, digits_printed)
