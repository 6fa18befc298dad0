-- Lines of a source with data: one with a text of rows, and one that has a number between other parts.
use Rattle.ed_programs.proofs.Kit.{Statement, is_place_name, array, has_quote, quote_parts, list_all-numbers}
use Rattle.ed_programs.proofs.Kit.{are_digits-digits, decimal_is, digit_bytes, few_bytes, line_bytes, run_bytes}
use Rattle.ed_programs.proofs.Kit.{some_digit, value_is, written, [], ap, arith, Bool, codes, decimal, false, length}
use Rattle.ed_programs.proofs.Kit.{length-append, List, nat_le, nat_lt, Ok, Option, refl, rules, Some, subst, sym, true}
use Rattle.ed_programs.proofs.Kit.{ℕ, ◌++◌, ◌+◌, ◌<◌, ◌==◌, ◌∙◌, ◌∷◌, ◌≡◌, ◌≤◌, list_all, and_from, and_parts, le-leb}
use Rattle.ed_programs.proofs.Kit.{leb-true, ltb-true, ne_eqb, not-true, nat_tests, length-map, list_all-append, value}
use Rattle.ed_programs.proofs.Kit.{Text, row_of, is_run_byte, is_line_byte, is_number, LinePart, run, form_at, row}
use Rattle.ed_programs.proofs.Kit.{spells, parts_of, line_of, run_parts, digits, a_number, true≢false, ◌&&◌, Marked}
use Rattle.ed_programs.proofs.Kit.{common_steps}
use Rattle.ed_syntax.specs.Parts.{begins_run}
use Rattle.ed_programs.proofs.NumberLines.{is_short_label}
use Rattle.ed_programs.proofs.RowTexts.{is_row_byte, text_rows}
use Rattle.ed_programs.proofs.SourceLines.{by_parts, mark}
use Rattle.ed_lines.specs.declared.program.Statement.TheVariants as statements

-- ---- a line that ends with `text` and a string

record Spelling (b : ℕ) : Type 0 where
  line : is_line_byte b ≡ true
  quote : (b == 34) ≡ false
  spelled : spells (row_of b) ≡ true
  code : nat_lt (row (row_of b)) 32 ≡ true

spelling : (b : ℕ) → is_row_byte b ≡ true → Spelling b
spelling b h = search (rules, ltb-true, and_parts, list_all-numbers, not-true)

-- what such bytes are
pub record Plain (q : Text) : Type 0 where
  pub line : list_all is_line_byte q ≡ true
  pub quote : has_quote q ≡ false
  pub spelled : list_all (λ b. spells (row_of b)) q ≡ true
  pub codes : list_all (λ c. nat_lt c 32) (text_rows q) ≡ true

pub all_plain : (q : Text) → list_all is_row_byte q ≡ true → Plain q
all_plain [] h = record { line = refl; quote = refl; spelled = refl; codes = refl }
all_plain (b ∷ q) h =
    let p = and_parts (is_row_byte b) (list_all is_row_byte q) h in
    let here = spelling b p.0 in
    let rest = all_plain q p.1 in
    search (rules, and_from)

pub text_says : (two : Bool) (k : ℕ) (label q : Text) → 2 ≤ k → is_short_label two label ≡ true → 1 ≤ length q
    → length q ≤ 90 → list_all is_row_byte q ≡ true
    → line_of two k (label ++ (codes ": text " ++ 34 ∷ (q ++ 34 ∷ [])))
    ≡ Ok (record { label = Some label; statement = Some (statements.Text (array (text_rows q))) })
text_says true k [] q later fits some few rows = absurd (true≢false (sym fits))
text_says false k [] q later fits some few rows = absurd (true≢false (sym fits))
text_says two k (b ∷ r) q later fits some few rows =
    let l : Text = b ∷ r in
    let rest : Text = codes ": text " ++ 34 ∷ (q ++ 34 ∷ []) in
    let p = and_parts (nat_le (length l) 13) _ fits in
    let t = and_parts (is_place_name two l) _ p.1 in
    let u = and_parts (list_all is_line_byte l) (list_all is_run_byte l) t.1 in
    let name = t.0 in
    let short = leb-true (length l) 13 p.0 in
    let no_version : (k == 1) ≡ false = ne_eqb k 1 (omega (arith, later)) in
    let plain = all_plain q rows in
    let spelled = plain.spelled in
    let line : list_all is_line_byte rest ≡ true =
    list_all-append is_line_byte q (34 ∷ []) ∙ ap (λ t. t && true) plain.line in
    let long = length-append q (34 ∷ []) in
    let all = length-append l rest in
    let there = le-leb 1 (length q) some in
    let near = le-leb (length q) 120 (omega arith) in
    grind (arith, common_steps, by_parts, list_all-append, and_from, run_parts, quote_parts)

abbrev pub text_mark : {two : Bool} (k : ℕ) (label q : Text) → 2 ≤ k → is_short_label two label ≡ true → 1 ≤ length q
    → length q ≤ 90 → list_all is_row_byte q ≡ true → Marked two
text_mark {two} k label q later fits some few rows =
    mark k (label ++ (codes ": text " ++ 34 ∷ (q ++ 34 ∷ []))) (Some label) (statements.Text (array (text_rows q)))
    (text_says two k label q later fits some few rows)

-- ---- a line with a number between two fixed texts

-- what its front and its tail make of it, whatever digits stand between them
pub record IsAround (two : Bool) (k : ℕ) (front tail : Text) (before after : List LinePart) (n : ℕ)
    (label : Option Text)
    (statement : Statement) : Type 0 where
  pub plain : (t : Text) → list_all is_line_byte t ≡ true → list_all is_line_byte (front ++ t) ≡ true
  pub tail_plain : list_all is_line_byte tail ≡ true
  pub short : length front + length tail ≤ 115
  pub ends : begins_run tail ≡ false
  pub tail_parts : parts_of tail ≡ Some after
  pub parts : (t : Text) (ps : List LinePart) → parts_of t ≡ Some ps → parts_of (front ++ t) ≡ Some (before ++ ps)
  pub form : (bytes : Text) → is_number bytes ≡ true → value bytes ≡ n
      → form_at two k (before ++ run bytes ∷ after) ≡ Some (Some (record { label = label; statement = Some statement }))

module _ {two : Bool} {k : ℕ} {front tail : Text} {before after : List LinePart} {n : ℕ} {label : Option Text}
    {statement : Statement} (o : IsAround two k front tail before after n label statement) where
  with_bytes : (bytes : Text) → 0 < length bytes → list_all is_line_byte bytes ≡ true → length bytes ≤ 5
      → list_all is_run_byte bytes ≡ true → is_number bytes ≡ true → value bytes ≡ n
      → line_of two k (front ++ (bytes ++ tail)) ≡ Ok (record { label = label; statement = Some statement })
  with_bytes bytes some plain few runs number is =
      grind (arith, nat_tests, length-append, by_parts, list_all-append, and_from, run_parts)

  pub number_says : n < 65536
      → line_of two k (front ++ (decimal n ++ tail)) ≡ Ok (record { label = label; statement = Some statement })
  number_says small =
      let ds : List ℕ = digits n in
      let some : 0 < length (written ds) = let e = some_digit n in omega (arith, length-map ds (λ d. 48 + d), e) in
      subst (λ (bytes : Text). line_of two k (front ++ (bytes ++ tail)) ≡ Ok (record {
        label = label;
        statement = Some statement;
      }))
      (decimal_is n small)
      (with_bytes (written ds) some (line_bytes ds (are_digits-digits n small)) (few_bytes n small)
      (run_bytes ds (are_digits-digits n small))
      (a_number (written ds) some (digit_bytes ds (are_digits-digits n small))) (value_is n small))

  -- such a line as a mark
  abbrev pub number_mark : n < 65536 → Marked two
  number_mark small = mark k (front ++ (decimal n ++ tail)) label statement (number_says small)
