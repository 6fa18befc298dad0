-- What the lines of the sources of calls say.
use Rattle.ed_sources.proofs.Kit.{decimal, not-true, list_all-append, Line, Statement, append_assoc, codes}
use Rattle.ed_sources.proofs.Kit.{length-append, nat_le, None, not, Ok, pos, list_all, and_parts, le-leb, nat_tests}
use Rattle.ed_sources.proofs.Kit.{length-map, is_digit, value, Text, is_run_byte, is_line_byte, is_number, LinePart}
use Rattle.ed_sources.proofs.Kit.{run, sign, form_at, settings, parts_of, line_of, run_parts, Check, NewLine, Print}
use Rattle.ed_sources.proofs.Kit.{Read, append-nil, ne_eqb, [], ap, arith, Bool, false, length, List, lit≤, Option}
use Rattle.ed_sources.proofs.Kit.{refl, rules, Some, subst, sym, true, ℕ, ◌++◌, ◌+◌, ◌<◌, ◌==◌, ◌∙◌, ◌∷◌, ◌≡◌, ◌≤◌}
use Rattle.ed_sources.proofs.Kit.{digits, row, spells, map, row_of}
use Rattle.ed_syntax.proofs.Kit.{is_place_name, array, modulo, quoted, parts_from, map-append}
use Rattle.ed_lines.specs.declared.program.Setting.{Setting}
use Rattle.ed_sources.proofs.CallTexts.{call_lines}
use Rattle.ed_sources.proofs.Decimals.{are_digits-digits, are_digits, decimal_is, few_bytes, line_bytes, no_quotes}
use Rattle.ed_sources.proofs.Decimals.{row_bytes, rows_are, some_digit, written, spelled}
use Rattle.ed_sources.proofs.TextLines.{Says, ends, says, by_parts}
use Rattle.ed_lines.specs.declared.program.Operand.TheVariants as operands
use Rattle.ed_lines.specs.declared.program.Statement.TheVariants as statements
use Rattle.std.proofs.lemmas.Grind.{common_steps}

-- ---- lines

abbrev pub said : ℕ → Option Text → Statement → Line
said k label statement = record { number = k; label = label; statement = Some statement }

-- an order that names a location
abbrev pub order : ℕ → Text → Statement
order function name = statements.Order function (operands.Label name (pos 0)) false

-- the two orders of a call of a routine
abbrev calling : ℕ → Text → Text → List Line
calling k label routine = said k (Some label) (order 28 label) ∷ said (k + 1) None (order 27 routine) ∷ []

-- the order Z F
abbrev pub stop : Statement
stop = statements.Order 13 (operands.Number 0) false

-- calls of routines one after the other, by their labels and names, the stop after them, and more lines
abbrev calls_from : ℕ → List (Text × Text) → List Line → List Line
calls_from k [] more = said k None stop ∷ more
calls_from k (c ∷ calls) more = calling k c.0 c.1 ++ calls_from (k + 2) calls more

-- a source whose segment `main` begins with such calls
abbrev pub main_calls : List (Text × Text) → List Line → List Line
main_calls calls more = said 1 None (statements.Segment (codes "main") None) ∷ calls_from 2 calls more

-- a parameter set to a name
abbrev pub at_place : ℕ → Text → Setting
at_place letter name = record { letter = letter; operand = operands.Label name (pos 0) }

-- `use` with parameters, and with H set to a place
abbrev pub use_with : Text → Text → List Setting → Statement
use_with routine name parameters = statements.Fetch routine name (array parameters)

abbrev pub use_on : Text → Text → Text → Statement
use_on routine name place = use_with routine name (at_place 21 place ∷ [])

abbrev pub print_lines : ℕ → List Line
print_lines n =
    main_calls ((codes "here", codes "p") ∷ [])
    (said 5 (Some (codes "value")) (statements.Number n)
    ∷ said 6 None (use_on (codes "print") (codes "p") (codes "value"))
    ∷ said 7 None (statements.Enter (codes "main"))
    ∷ [])

abbrev pub read_lines : ℕ → List Line
read_lines n =
    main_calls ((codes "here", codes "r") ∷ (codes "then", codes "p") ∷ [])
    (said 7 (Some (codes "value")) (statements.Order 0 (operands.Number 0) false)
    ∷ said 8 None (use_on (codes "read") (codes "r") (codes "value"))
    ∷ said 9 None (use_on (codes "print") (codes "p") (codes "value"))
    ∷ said 10 None (statements.Enter (codes "main"))
    ∷ said 11 None (statements.Rows (array (digits n ++ 17 ∷ [])))
    ∷ [])

abbrev pub newline_lines : List Line
newline_lines =
    main_calls ((codes "here", codes "n") ∷ [])
    (said 5 None (use_with (codes "newline") (codes "n") [])
    ∷ said 6 None (statements.Enter (codes "main"))
    ∷ [])

abbrev pub check_lines : ℕ → List Line
check_lines n =
    main_calls ((codes "here", codes "p") ∷ [])
    (said 5 (Some (codes "value")) (statements.Number n)
    ∷ said 6 None (use_on (codes "print") (codes "p") (codes "value"))
    ∷ said 7 None (use_on (codes "check") (codes "c") (codes "main"))
    ∷ said 8 None (statements.Enter (codes "c"))
    ∷ [])

-- ---- the line with the number

pub number_parts : (bytes : Text) → 0 < length bytes → list_all is_run_byte bytes ≡ true
    → parts_of bytes ≡ Some (run bytes ∷ [])
number_parts [] some h = absurd (omega arith)
number_parts (b ∷ r) some h = ap parts_of (sym (append-nil (b ∷ r))) ∙ run_parts b r [] h refl

pub a_number : (bytes : Text) → 0 < length bytes → list_all is_digit bytes ≡ true → is_number bytes ≡ true
a_number [] some h = absurd (omega arith)
a_number (b ∷ r) some h = h

-- what the front of a line that ends with `word N` makes of the line, whatever follows: its label and the parts
-- before `word`
pub record IsWordFront (two : Bool) (k : ℕ) (front : Text) (label : Option Text) (before : List LinePart) : Type 0 where
  pub plain : (bytes : Text) → list_all is_line_byte bytes ≡ true → list_all is_line_byte (front ++ bytes) ≡ true
  pub short : length front ≤ 20
  pub parts : (bytes : Text) → parts_of bytes ≡ Some (run bytes ∷ [])
      → parts_of (front ++ bytes) ≡ Some (before ++ run (codes "word") ∷ run bytes ∷ [])
  pub form : (bytes : Text) → is_number bytes ≡ true → nat_le (value bytes) 131071 ≡ true
      → form_at two k (before ++ run (codes "word") ∷ run bytes ∷ [])
      ≡ Some (Some (record { label = label; statement = Some (statements.Number (modulo 17 (pos (value bytes)))) }))

-- the parts of a label
abbrev pub label_parts : Text → List LinePart
label_parts label = run label ∷ sign 58 ∷ []

module _ {two : Bool} {k : ℕ} {front : Text} {label : Option Text} {before : List LinePart}
    (is_front : IsWordFront two k front label before) where
  word_line : (bytes : Text) (n : ℕ) → list_all is_line_byte bytes ≡ true → length bytes ≤ 5
      → parts_of bytes ≡ Some (run bytes ∷ [])
      → is_number bytes ≡ true → value bytes ≡ n → n < 65536
      → line_of two k (front ++ bytes) ≡ Ok (record { label = label; statement = Some (statements.Number n) })
  word_line bytes n plain few parts number is small = grind (arith, nat_tests, length-append, by_parts, le-leb)

  pub word_says : (n : ℕ) → n < 65536
      → line_of two k (front ++ decimal n) ≡ Ok (record { label = label; statement = Some (statements.Number n) })
  word_says n small =
      let ds : List ℕ = digits n in
      let some : 0 < length (written ds) = let e = some_digit n in omega (arith, length-map ds (λ d. 48 + d), e) in
      search (rules, spelled, word_line, number_parts, a_number)

  -- the same in a filled text
  pub filled_says : (n : ℕ) → n < 65536
      → line_of two k (front ++ (decimal n ++ []))
      ≡ Ok (record { label = label; statement = Some (statements.Number n) })
  filled_says n small = ap (λ (t : Text). line_of two k (front ++ t)) (append-nil (decimal n)) ∙ word_says n small

-- `word` alone, after the first line
pub plain_front : (two : Bool) (k : ℕ) → 2 ≤ k → IsWordFront two k (codes "word ") None []
plain_front two k later = search (rules, ne_eqb)

-- a label that is a name, and `word`
pub named_front : (two : Bool) (k : ℕ) (label : Text) → (k == 1) ≡ false → is_place_name two label ≡ true
    → length label ≤ 13 → list_all is_run_byte label ≡ true → list_all is_line_byte label ≡ true
    → IsWordFront two k (label ++ codes ": word ") (Some label) (label_parts label)
named_front two k label later named few runs plain =
    search (rules, list_all-append, length-append, append_assoc, run_parts)

-- a line with such a label, `word` and a number
pub labelled : (k : ℕ) (label : Text) → (k == 1) ≡ false → is_place_name false label ≡ true → length label ≤ 13
    → list_all is_run_byte label ≡ true → list_all is_line_byte label ≡ true → (n : ℕ) → n < 65536
    → line_of false k ((label ++ codes ": word ") ++ (decimal n ++ []))
    ≡ Ok (record { label = Some label; statement = Some (statements.Number n) })
labelled k label later named few runs plain = filled_says (named_front false k label later named few runs plain)

pub print_says : (n : ℕ) → n < 65536 → Says false 1 (call_lines (Print n)) (print_lines n)
unfolding settings
print_says n small = says refl (says refl (says refl (says refl
    (says (labelled 5 (codes "value") refl refl (lit≤ tt) refl refl n small) (says refl (says refl ends))))))

pub check_says : (n : ℕ) → n < 65536 → Says false 1 (call_lines (Check n)) (check_lines n)
unfolding settings
check_says n small = says refl (says refl (says refl (says refl
    (says (labelled 5 (codes "value") refl refl (lit≤ tt) refl refl n small)
    (says refl (says refl (says refl ends)))))))

pub newline_says : Says false 1 (call_lines NewLine) newline_lines
newline_says = says refl (says refl (says refl (says refl (says refl (says refl ends)))))

-- ---- the line with the rows of a number

-- digits and F between quotes
quoted_digits : (q : Text) (ds : List ℕ) → list_all (λ b. not (b == 34)) (written ds) ≡ true
    → parts_from (Some q) (written ds ++ 70 ∷ 34 ∷ []) ≡ Some (quoted (q ++ (written ds ++ 70 ∷ [])) ∷ [])
quoted_digits q [] h = refl
quoted_digits q (d ∷ ds) h =
    let p = and_parts (not (48 + d == 34)) (list_all (λ b. not (b == 34)) (written ds)) h in
    let other : (48 + d == 34) ≡ false = not-true (48 + d == 34) p.0 in
    rw other (quoted_digits (q ++ (48 + d) ∷ []) ds p.1
    ∙ ap (λ (t : Text). Some (quoted t ∷ [])) (append_assoc q ((48 + d) ∷ []) (written ds ++ 70 ∷ [])))

-- the same, and F after them
with_F : (test : ℕ → Bool) (bytes : Text) → list_all test bytes ≡ true → test 70 ≡ true
    → list_all test (bytes ++ 70 ∷ []) ≡ true
with_F test [] h k = rw k refl
with_F test (b ∷ bytes) h k = grind (arith, common_steps)

-- and the quote after them
pub with_end : (bytes : Text) → list_all is_line_byte bytes ≡ true
    → list_all is_line_byte (bytes ++ 70 ∷ 34 ∷ []) ≡ true
with_end [] h = refl
with_end (b ∷ bytes) h = grind (arith, common_steps)

rows_line : (ds : List ℕ) → are_digits ds ≡ true → length (written ds) ≤ 5
    → line_of false 11 (codes "data " ++ 34 ∷ written ds ++ 70 ∷ 34 ∷ [])
    ≡ Ok (record { label = None; statement = Some (statements.Rows (array (ds ++ 17 ∷ []))) })
rows_line ds are few =
    let bytes : Text = written ds in
    let quote : Text = bytes ++ 70 ∷ [] in
    let all_long = length-append bytes (70 ∷ 34 ∷ []) in
    let plain : list_all is_line_byte (bytes ++ 70 ∷ 34 ∷ []) ≡ true = with_end bytes (line_bytes ds are) in
    let long = length-append bytes (70 ∷ []) in
    let some = le-leb 1 (length quote) (omega (arith, long)) in
    let fits = le-leb (length quote) 120 (omega (arith, long, few)) in
    let spelled : list_all (λ b. spells (row_of b)) quote ≡ true =
    with_F (λ b. spells (row_of b)) bytes (row_bytes ds are) refl in
    let rows : map (λ b. row (row_of b)) quote ≡ ds ++ 17 ∷ [] =
    map-append (λ b. row (row_of b)) bytes (70 ∷ []) ∙ ap (λ (x : List ℕ). x ++ 17 ∷ []) (rows_are ds are) in
    by_parts false 11 (codes "data " ++ 34 ∷ bytes ++ 70 ∷ 34 ∷ []) (run (codes "data") ∷ quoted quote ∷ []) plain
    (omega (arith, all_long, few))
    (rw (quoted_digits [] ds (no_quotes ds are)) refl)
    (rw (some, fits, spelled)
    (ap (λ (x : List ℕ). Some (Some (record { label = None; statement = Some (statements.Rows (array x)) }))) rows))

read_number : (n : ℕ) → n < 65536
    → line_of false 11 (codes "data " ++ 34 ∷ decimal n ++ 70 ∷ 34 ∷ [])
    ≡ Ok (record { label = None; statement = Some (statements.Rows (array (digits n ++ 17 ∷ []))) })
read_number n small =
    subst (λ (bytes : Text). line_of false 11 (codes "data " ++ 34 ∷ bytes ++ 70 ∷ 34 ∷ [])
    ≡ Ok (record { label = None; statement = Some (statements.Rows (array (digits n ++ 17 ∷ []))) }))
    (decimal_is n small) (rows_line (digits n) (are_digits-digits n small) (few_bytes n small))

pub read_says : (n : ℕ) → n < 65536 → Says false 1 (call_lines (Read n)) (read_lines n)
unfolding settings
read_says n small =
    says refl (says refl (says refl (says refl (says refl (says refl (says refl (says refl (says refl (says refl
    (says (read_number n small) ends))))))))))
