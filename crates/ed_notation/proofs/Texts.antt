-- The text of items spells their rows.
use Rattle.ed_notation.proofs.Kit.{[], Bool, drop, false, length, List, lit<, nat_lt, refl, Some, true, ℕ, ◌++◌, ◌+◌}
use Rattle.ed_notation.proofs.Kit.{◌<◌, ◌∷◌, ◌≡◌, ◌≤◌, list_all, and_parts, le-leb, ltb-true, append-nil, drop_all}
use Rattle.ed_notation.proofs.Kit.{byte_of, row_of, ap, arith, sym, ◌∙◌, AreDigits, IsWritten, mark_rows, rows_of}
use Rattle.ed_notation.proofs.Kit.{spelled_rows, Written, AreWritten, canonicals, line_from, text_of, Item, rules}
use Rattle.ed_codes.specs.Reading.{reading, rows}
use Rattle.ed_codes.specs.Text.{Spells, none, row, spacing}
use Rattle.ed_codes.proofs.Pieces.{spells_append}
use Rattle.ed_codes.proofs.Readings.{has_one_reading}
use Rattle.ed_codes.proofs.Spellings.{letter_back}
use Rattle.ed_notation.proofs.Tests.{end_range}

-- ---- bytes

pub digit_back : (code : ℕ) → code < 10 → row_of (48 + code) ≡ Some code
digit_back code h =
    rw (le-leb 48 (48 + code) (omega arith), le-leb (48 + code) 57 (omega arith)) (ap Some (omega arith))

as_digit_back : (code : ℕ) (t : Bool) → nat_lt code 10 ≡ t → code < 32 → row_of (byte_of code true) ≡ Some code
as_digit_back code true e h = rw e (digit_back code (ltb-true _ _ e))
as_digit_back code false e h = rw e (letter_back code h)

-- the byte of a code spells it
byte_back : (code : ℕ) (as_digit : Bool) → code < 32 → row_of (byte_of code as_digit) ≡ Some code
byte_back code true h = as_digit_back code (nat_lt code 10) refl h
byte_back code false h = letter_back code h

-- ---- rows are codes

abbrev pub AreCodes : List ℕ → Type 0
AreCodes [] = Unit {0}
AreCodes (c ∷ cs) = (c < 32) × AreCodes cs

-- the same, by a test
pub are_codes : (cs : List ℕ) → list_all (λ c. nat_lt c 32) cs ≡ true → AreCodes cs
are_codes [] h = tt
are_codes (c ∷ cs) h = let p = and_parts _ _ h in
    (ltb-true c 32 p.0, are_codes cs p.1)

codes_append : (xs ys : List ℕ) → AreCodes xs → AreCodes ys → AreCodes (xs ++ ys)
codes_append [] ys h k = k
codes_append (x ∷ xs) ys h k = (h.0, codes_append xs ys h.1 k)

digit_codes : (ds : List ℕ) → AreDigits ds → AreCodes ds
digit_codes [] h = tt
digit_codes (d ∷ ds) h = let l = h.0 in (omega (arith, l), digit_codes ds h.1)

mark_codes : (m : Bool) → AreCodes (mark_rows m)
mark_codes true = (lit< tt, tt)
mark_codes false = tt

row_codes : (w : Written) → IsWritten w → AreCodes (rows_of w)
row_codes w good = search (rules, codes_append, digit_codes, mark_codes, end_range)

-- ---- the text

pub line_spells : (as_digit : Bool) (cs : List ℕ) → AreCodes cs → Spells (line_from as_digit cs) cs
line_spells as_digit [] h = spacing 10 [] [] refl none
line_spells as_digit (c ∷ cs) h =
    row (byte_of c as_digit) c (line_from true cs) cs (byte_back c as_digit h.0) (line_spells true cs h.1)

text_spells : (ws : List Written) → AreWritten ws → Spells (text_of ws) (spelled_rows ws)
text_spells [] h = none
text_spells (w ∷ ws) h = search (rules, spells_append, line_spells, row_codes, text_spells ws h.1)

pub text_reads : (ws : List Written) → AreWritten ws → reading (text_of ws) ≡ rows (spelled_rows ws)
text_reads ws h = has_one_reading.only (text_of ws) (rows (spelled_rows ws)) (text_spells ws h)

-- after the last line
pub text_end : (is : List Item) (text : List ℕ) (k : ℕ) → length is ≤ k
    → text ++ text_of (canonicals (drop k is)) ≡ text_of (canonicals is) → text ≡ text_of (canonicals is)
text_end is text k l h =
    sym (append-nil text) ∙ ap (λ x. text ++ text_of (canonicals x)) (sym (drop_all k is l)) ∙ h
