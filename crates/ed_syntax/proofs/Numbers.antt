-- A number only grows by more digits.
use Rattle.ed_syntax.proofs.Kit.{[], ap, arith, drop, Err, get_or, length, List, None, refl, sym, take, true, ℕ, ◌*◌}
use Rattle.ed_syntax.proofs.Kit.{◌+◌, ◌-◌, ◌<◌, ◌∙◌, ◌∷◌, ◌≡◌, ◌≤◌, take-append-drop, fold-append, value, is_number}
use Rattle.ed_syntax.proofs.Kit.{form_result, OutOfRange, common_steps}
use Rattle.std.proofs.Common.{fold}
use Rattle.std.proofs.lemmas.Bool.{lt-leb}
use Rattle.std.proofs.lemmas.List.Sums.{fold_more}
use Rattle.ed_syntax.specs.Reading.Grammar.{number_up_to, up_to}

abbrev longer : ℕ → ℕ → ℕ
longer n b = 10 * n + (b - 48)

grows : (n : ℕ) (ys : List ℕ) → n ≤ fold longer n ys
grows n [] = omega arith
grows n (y ∷ ys) = omega (arith, grows (longer n y) ys)

prefix : (i : ℕ) (xs : List ℕ) → value (take i xs) ≤ value xs
prefix i xs =
    let whole : value xs ≡ fold longer (value (take i xs)) (drop i xs) =
    ap value (sym (take-append-drop i xs)) ∙ fold-append longer 0 (take i xs) (drop i xs) in
    omega (arith, whole, grows (value (take i xs)) (drop i xs))

pub too_large : (most v i : ℕ) (xs : List ℕ) → i < length xs → v ≡ value (take i xs)
    → most < 10 * v + (get_or xs i 0 - 48) → up_to most xs ≡ None
too_large most v i xs lt e h = grind (arith, common_steps, fold_more, lt-leb, prefix)

-- digits that spell too large a number are a number out of its range
pub out_of_range : (most : ℕ) (xs : List ℕ) → is_number xs ≡ true → up_to most xs ≡ None
    → Err OutOfRange ≡ form_result (number_up_to most xs)
out_of_range most xs number over = rw (number, over) refl
