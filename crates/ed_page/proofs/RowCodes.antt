-- The rows that a text spells, and those of the tape of a source, are codes.
use Rattle.ed_page.proofs.Kit.{rules, take-length, Size, zero, take, Line, [], ap, drop, length, List, subst, suc, sym}
use Rattle.ed_page.proofs.Kit.{ℕ, ◌-◌, ◌∙◌, ◌∷◌, ◌≡◌, length-drop, Text, reading, rows, tape, IsAcceptedAs, AreCodes}
use Rattle.ed_initial.proofs.Starts.{read_fit}
use Rattle.ed_headline.proofs.PunchedTexts.{text_is_tape}

pub read_codes : (text : Text) (codes : List ℕ) → reading text ≡ rows codes → AreCodes codes
read_codes text codes is = read_fit text codes is

pub source_codes : (z : Size) (text : Text) (lines : List Line) → IsAcceptedAs z text lines → AreCodes (tape lines)
source_codes z text lines accepted = search (rules, read_codes, text_is_tape)

-- the codes from one on are all that follow
pub codes_after : (n : ℕ) (all : List ℕ) → take (length all - n) (drop n all) ≡ drop n all
codes_after n all = ap (λ (m : ℕ). take m (drop n all)) (sym (length-drop n all)) ∙ take-length (drop n all)

-- and they are codes
dropped : (n : ℕ) (all : List ℕ) → AreCodes all → AreCodes (drop n all)
dropped zero all are = are
dropped (suc n) [] are = are
dropped (suc n) (code ∷ rest) are = dropped n rest (λ i. are (suc i))

pub are_after : (n : ℕ) (all : List ℕ) → AreCodes all → AreCodes (take (length all - n) (drop n all))
are_after n all are = subst AreCodes (sym (codes_after n all)) (dropped n all are)
