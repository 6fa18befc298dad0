-- The codes of functions, of settings and of rows, and numbers modulo others, are in their ranges.
use Rattle.ed_syntax.proofs.Kit.{[], arith, Bool, false, IfSome, List, negsuc}
use Rattle.ed_syntax.proofs.Kit.{pos, refl, subst, true, unsigned_abs, ℕ, ℤ, ◌<◌, ◌==◌, ◌||◌}
use Rattle.ed_syntax.proofs.Kit.{◌∷◌, ◌≡◌, ◌≤◌, Decides-eqb, row_of, function, rules}
use Rattle.ed_syntax.proofs.Kit.{setting_letter}
use Rattle.std.specs.Int.{int_rem_euclid}
use Rattle.std.specs.List.{list_any}
use Rattle.std.proofs.lemmas.List.Quantifiers.{position-Some}

-- the code of a setting's letter
pub record IsLetter (l : ℕ) : Type 0 where
  pub low : 21 ≤ l
  pub high : l ≤ 26

abbrev EachOf : (ℕ → Type 0) → List ℕ → Type 0
EachOf P [] = Unit {0}
EachOf P (x ∷ xs) = P x × EachOf P xs

-- what holds of each byte of a list holds of a byte that is among them
among : (P : ℕ → Type 0) (xs : List ℕ) (b : ℕ) → EachOf P xs → list_any (λ c. c == b) xs ≡ true → P b
among P [] b h e = absurd (cc)
among P (x ∷ xs) b h e = by_test (x == b) refl e (among P xs b h.1)
  where
    by_test : (c : Bool) → (x == b) ≡ c → (c || list_any (λ y. y == b) xs) ≡ true
        → (list_any (λ y. y == b) xs ≡ true → P b) → P b
    by_test true f g more = subst P ((Decides-eqb x b).0 f) h.0
    by_test false f g more = more g

-- the letters of settings have the codes 21 to 26
pub letter_within : (b : ℕ) → IfSome (setting_letter b) IsLetter
letter_within b = search (rules, among)

-- the row of a byte is a code
pub row_fits : (b : ℕ) → IfSome (row_of b) (λ c. c < 32)
row_fits b = search (rules, position-Some)

pub function_fits : (b : ℕ) → IfSome (function b) (λ f. f < 32)
function_fits b = search (rules, row_fits)

-- a number modulo another
pub modulo_fits : (m : ℕ) (z : ℤ) → 0 < m → unsigned_abs (int_rem_euclid z (pos m)) < m
modulo_fits m (pos a) h = omega (arith, h)
modulo_fits m (negsuc a) h = omega (arith, h)
