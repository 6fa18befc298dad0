-- The codes that set a shift print nothing.
use Rattle.std.proofs.Common.{◌≡◌, ◌≢◌, ◌∙◌, ℕ, Bool, true, false, List, [], ◌∷◌, refl, sym, ap, arith, nat_eq}
use Rattle.std.proofs.lemmas.Bool.Decides.{nat_tests}
use Rattle.ed_printer.specs.Paper.{bytes_of, shift_after, struck_bytes}
use Rattle.ed_printer.specs.declared.printer.Shift.{Shift}
use Rattle.ed_printer.specs.declared.printer.Shift.TheVariants.{Letters, Figures}

pub eleven_silent : (shift : Shift) → struck_bytes shift 11 ≡ []
eleven_silent Letters = refl
eleven_silent Figures = refl

pub fifteen_silent : (shift : Shift) → struck_bytes shift 15 ≡ []
fifteen_silent Letters = refl
fifteen_silent Figures = refl

-- the bytes of the pound sign
abbrev pound : List ℕ
pound = 194 ∷ 163 ∷ []

-- a character that isn't 0 has a byte
has_bytes : (character : ℕ) → character ≢ 0 → bytes_of character ≢ []
has_bytes character some none = by_tests (nat_eq character 163) zero refl none
  where
    zero : nat_eq character 0 ≡ false
    zero = grind (arith, nat_tests)

    by_tests : (p : Bool) → nat_eq character 0 ≡ false → nat_eq character 163 ≡ p → bytes_of character ≡ [] → ⊥
    by_tests true e f h = let g : pound ≡ [] = rw (e, f) at h in absurd (cc)
    by_tests false e f h = let g : character ∷ [] ≡ [] = rw (e, f) at h in absurd (cc)

-- so a code whose character isn't 0 keeps the shift
keeps_shift : (shift : Shift) (code character : ℕ) → bytes_of character ≡ struck_bytes shift code → character ≢ 0
    → shift_after shift code ≡ shift
keeps_shift shift code character is some = by_tests (nat_eq code 11) (nat_eq code 15) refl refl
  where
    other : (n : ℕ) → struck_bytes shift n ≡ [] → nat_eq code n ≡ true → ⊥
    other n silent same =
        let e : code ≡ n = grind (arith, nat_tests) in
        has_bytes character some (is ∙ ap (λ (k : ℕ). struck_bytes shift k) e ∙ silent)

    by_tests : (a b : Bool) → nat_eq code 11 ≡ a → nat_eq code 15 ≡ b → shift_after shift code ≡ shift
    by_tests true b e f = absurd (other 11 (eleven_silent shift) e)
    by_tests false true e f = absurd (other 15 (fifteen_silent shift) f)
    by_tests false false e f = rw (e, f) refl

-- and so does a code whose character is its one byte
pub plain_keeps_shift : (shift : Shift) (code character : ℕ) → bytes_of character ≡ struck_bytes shift code
    → bytes_of character ≡ character ∷ [] → shift ≡ shift_after shift code
plain_keeps_shift shift code character is plain = sym (keeps_shift shift code character is some)
  where
    some : character ≢ 0
    some zero = let none : bytes_of 0 ≡ 0 ∷ [] = rw zero at plain in absurd (cc)
