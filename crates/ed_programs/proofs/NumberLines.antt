-- Lines of a source that end with `word N`, for any number.
use Rattle.ed_programs.proofs.Kit.{is_place_name, [], arith, Bool, codes, decimal, length, List, nat_le, Option, Some}
use Rattle.ed_programs.proofs.Kit.{true, ℕ, ◌++◌, ◌<◌, ◌≡◌, ◌≤◌, list_all, and_parts, leb-true, ne_eqb, Text}
use Rattle.ed_programs.proofs.Kit.{is_run_byte, is_line_byte, LinePart, ◌&&◌, Marked}
use Rattle.ed_sources.proofs.Said.{IsWordFront, filled_says, label_parts, named_front, plain_front}
use Rattle.ed_programs.proofs.SourceLines.{mark}
use Rattle.ed_lines.specs.declared.program.Statement.TheVariants as statements

-- whether a label may stand before `word N`
abbrev pub is_short_label : Bool → Text → Bool
is_short_label two label =
    nat_le (length label) 13 && (is_place_name two label && (list_all is_line_byte label && list_all is_run_byte label))

pub label_front : (two : Bool) (k : ℕ) (label : Text) → 2 ≤ k → is_short_label two label ≡ true
    → IsWordFront two k (label ++ codes ": word ") (Some label) (label_parts label)
label_front two k label later fits =
    let p = and_parts (nat_le (length label) 13) _ fits in
    let q = and_parts (is_place_name two label) _ p.1 in
    let bytes = and_parts (list_all is_line_byte label) _ q.1 in
    named_front two k label (ne_eqb k 1 (omega (arith, later))) q.0 (leb-true (length label) 13 p.0) bytes.1 bytes.0

module _ {two : Bool} (k : ℕ) (n : ℕ) (small : n < 65536) where
  -- a line that ends with `word N`
  abbrev pub marked_word : {front : Text} {label : Option Text} {before : List LinePart}
      → IsWordFront two k front label before → Marked two
  marked_word {front} {label} is_front =
      mark k (front ++ (decimal n ++ [])) label (statements.Number n) (filled_says is_front n small)

  -- with a label, and without
  abbrev pub word_mark : (label : Text) → 2 ≤ k → is_short_label two label ≡ true → Marked two
  word_mark label later fits = marked_word (label_front two k label later fits)

  abbrev pub plain_mark : 2 ≤ k → Marked two
  plain_mark later = marked_word (plain_front two k later)
