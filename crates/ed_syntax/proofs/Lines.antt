-- The first line of a text.
use Rattle.ed_syntax.proofs.Kit.{[], ap, arith, Bool, drop, false, get_or, length, refl, sym, take, true, ℕ, ◌++◌, ◌+◌}
use Rattle.ed_syntax.proofs.Kit.{◌<◌, ◌==◌, ◌∙◌, ◌∷◌, ◌≡◌, and-false, or_parts, Text, has_end, lines_of, with_byte}
use Rattle.ed_syntax.proofs.Kit.{without_return}
use Rattle.std.proofs.lemmas.List.{length-drop}
use Rattle.ed_syntax.specs.Private.LineFronts.{TakesLine}
use Rattle.ed_syntax.proofs.Splits.{split_at}

pub no_end_head : (b : ℕ) (bs : Text) → has_end (b ∷ bs) ≡ false → ((b == 10) ≡ false) × (has_end bs ≡ false)
no_end_head b bs = or_parts (b == 10) _

pub empty_line : (rest : Text) → lines_of (10 ∷ rest) ≡ [] ∷ lines_of rest
empty_line [] = refl
empty_line (b ∷ bs) = refl

one_byte : (b : ℕ) (rest : Text) (c : Bool) → (b == 13) ≡ c → (b == 10) ≡ false
    → lines_of (b ∷ 10 ∷ rest) ≡ without_return (b ∷ []) ∷ lines_of rest
one_byte b rest true r e = simp (e, r)
one_byte b rest false r e = simp (e, r) (ap (with_byte b) (empty_line rest))

-- The first line reaches up to the first end, without a carriage return there.
pub lines_of-ended : (front rest : Text) → has_end front ≡ false
    → lines_of (front ++ 10 ∷ rest) ≡ without_return front ∷ lines_of rest
lines_of-ended [] rest e = empty_line rest
lines_of-ended (b ∷ []) rest e = one_byte b rest (b == 13) refl (no_end_head b [] e).0
lines_of-ended (b ∷ c ∷ f) rest e =
    let here = no_end_head b (c ∷ f) e in
    let first : (b == 10) ≡ false = here.0 in
    let second : (c == 10) ≡ false = (no_end_head c f here.1).0 in
    simp (first, second, and-false) (ap (with_byte b) (lines_of-ended (c ∷ f) rest here.1))

pub unended : (b : ℕ) (bs : Text) → has_end (b ∷ bs) ≡ false → lines_of (b ∷ bs) ≡ (b ∷ bs) ∷ []
unended b [] e = let first : (b == 10) ≡ false = (no_end_head b [] e).0 in simp first
unended b (c ∷ bs) e =
    let here = no_end_head b (c ∷ bs) e in
    let first : (b == 10) ≡ false = here.0 in
    let second : (c == 10) ≡ false = (no_end_head c bs here.1).0 in
    simp (first, second, and-false) (ap (with_byte b) (unended c bs here.1))

pub no_return : (xs : Text) → without_return (xs ++ 13 ∷ []) ≡ xs
no_return (x ∷ y ∷ xs) = ap (λ (l : Text). x ∷ l) (no_return (y ∷ xs))
no_return xs = refl

pub keeps_end : (xs : Text) (b : ℕ) → (b == 13) ≡ false → without_return (xs ++ b ∷ []) ≡ xs ++ b ∷ []
keeps_end (x ∷ y ∷ xs) b e = ap (λ (l : Text). x ∷ l) (keeps_end (y ∷ xs) b e)
keeps_end xs b e = simp e

pub takes_ended : (text line : Text) (i : ℕ) → i < length text → has_end (take i text) ≡ false
    → get_or text i 0 ≡ 10 → line ≡ without_return (take i text) → TakesLine text line (drop (i + 1) text)
takes_ended text line i lt e h is =
    let whole = split_at text i 10 lt h in
    let size : length (drop (i + 1) text) + (i + 1) ≡ length text = omega (arith, length-drop (i + 1) text, lt) in
    record {
      lines = ap lines_of whole ∙ lines_of-ended (take i text) (drop (i + 1) text) e
          ∙ ap (λ (l : Text). l ∷ lines_of (drop (i + 1) text)) (sym is);
      shorter = omega (arith, size);
    }

pub takes_last : (text : Text) → 0 < length text → has_end text ≡ false → TakesLine text text []
takes_last [] h e = absurd (omega arith)
takes_last (b ∷ bs) h e = record { lines = unended b bs e; shorter = omega arith }

pub from_return : (line before : Text) (last : ℕ) → line ≡ before ++ last ∷ [] → last ≡ 13
    → before ≡ without_return line
from_return line before last e h = sym (ap without_return (e ∙ ap (λ (b : ℕ). before ++ b ∷ []) h) ∙ no_return before)

pub from_other : (line before : Text) (last : ℕ) (c : Bool) → line ≡ before ++ last ∷ [] → (last == 13) ≡ c
    → c ≡ false → line ≡ without_return line
from_other line before last c e h is = sym (ap without_return e ∙ keeps_end before last (h ∙ is) ∙ sym e)
