-- The lines of a source are those that a program may have: numbered from 1, not too many, and each of a form of the
-- grammar with its numbers in their ranges.
use Rattle.ed_syntax.proofs.Kit.{[], arith, Bool, get_or, length, List, Ok, refl, suc, true, zero, ℕ, ◌+◌, ◌<◌}
use Rattle.ed_syntax.proofs.Kit.{◌∷◌, ◌≡◌, ◌≤◌, list_all, Text, AreNumbered, is_line, lines_from, and_more, LinesSay}
use Rattle.ed_syntax.proofs.Kit.{no_more, Line, rules}
use Rattle.ed_syntax.proofs.FitLaws.{each_spelled_is_form}
use Rattle.ed_syntax.proofs.SourceLaws.{lines_answer}

-- the lines' numbers run upwards from k without a gap
abbrev pub IsNumberedFrom : ℕ → List Line → Type 0
IsNumberedFrom k [] = Unit {0}
IsNumberedFrom k (l ∷ ls) = (l.number ≡ k) × IsNumberedFrom (k + 1) ls

number_at : (k : ℕ) (lines : List Line) → IsNumberedFrom k lines → (i : ℕ) (d : Line) → i < length lines
    → (get_or lines i d).number ≡ k + i
number_at k [] h i d below = absurd (omega arith)
number_at k (l ∷ ls) h zero d below = omega (arith, h.0)
number_at k (l ∷ ls) h (suc i) d below = omega (arith, number_at (k + 1) ls h.1 i d (omega arith))

-- what holds of the lines of a program
pub record AreLines (two : Bool) (lines : List Line) : Type 0 where
  pub few : length lines ≤ 2000
  pub numbered : AreNumbered lines
  pub formed : list_all (is_line two) lines ≡ true

-- there are as many lines said as lines of text
said_length : {two : Bool} {k : ℕ} {lines : List Text} {said : List Line} → LinesSay two k lines said
    → length said ≡ length lines
said_length (no_more k) = refl
said_length (and_more k line lines f said s h) = let e = said_length h in omega (arith, e)

said_numbered : {two : Bool} {k : ℕ} {lines : List Text} {said : List Line} → LinesSay two k lines said
    → IsNumberedFrom k said
said_numbered (no_more k) = tt
said_numbered (and_more k line lines f said s h) = (refl, said_numbered h)

-- each line that is said has a form
said_formed : {two : Bool} {k : ℕ} {lines : List Text} {said : List Line} → LinesSay two k lines said
    → list_all (is_line two) said ≡ true
said_formed (no_more k) = refl
said_formed {two} (and_more k line lines f said s h) =
    let first = each_spelled_is_form two k line f s.spells in rw first (said_formed h)

-- the lines that are read in a source
pub program_formed : (two : Bool) (texts : List Text) (lines : List Line) → lines_from two 1 texts ≡ Ok lines
    → AreLines two lines
program_formed two texts lines e = search (rules, lines_answer, said_length, number_at, said_numbered, said_formed)
