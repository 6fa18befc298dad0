-- The lines of a text that is made of lines, and what they say one after the other.
use Rattle.ed_sources.proofs.Kit.{Line, Statement, append_assoc, Ok, list_all, and_parts, Text, is_line_byte, LinePart}
use Rattle.ed_sources.proofs.Kit.{form_at, parts_of, line_of, lines_from, ne_eqb, [], ap, arith, Bool, false}
use Rattle.ed_sources.proofs.Kit.{length, List, Option, refl, Some, sym, true, ℕ, ◌++◌, ◌+◌}
use Rattle.ed_sources.proofs.Kit.{◌∙◌, ◌∷◌, ◌≡◌, ◌≤◌, is_two, program_of, text_of_lines}
use Rattle.ed_syntax.proofs.Kit.{lines_of, with_byte}
use Rattle.ed_syntax.specs.Reading.Sources.{and_lines}
use Rattle.std.proofs.lemmas.Grind.{common_steps}
use Rattle.std.proofs.Common.{rules}

byte_before : (b c : ℕ) (bs : Text) → is_line_byte b ≡ true → lines_of (b ∷ c ∷ bs) ≡ with_byte b (lines_of (c ∷ bs))
byte_before b c bs inside = grind (arith, common_steps)

-- the first line
first_line : (front rest : Text) → list_all is_line_byte front ≡ true
    → lines_of (front ++ 10 ∷ rest) ≡ front ∷ lines_of rest
first_line [] [] h = refl
first_line [] (c ∷ rest) h = refl
first_line (b ∷ []) rest h = grind (arith, common_steps)
first_line (b ∷ c ∷ front) rest h =
    let p = and_parts (is_line_byte b) (list_all is_line_byte (c ∷ front)) h in
    byte_before b c (front ++ 10 ∷ rest) p.0 ∙ ap (with_byte b) (first_line (c ∷ front) rest p.1)

-- the lines of a text are those that it was made of
pub lines_back : (lines : List Text) → list_all (list_all is_line_byte) lines ≡ true
    → lines_of (text_of_lines lines) ≡ lines
lines_back [] h = refl
lines_back (line ∷ lines) h =
    let p = and_parts (list_all is_line_byte line) (list_all (list_all is_line_byte) lines) h in
    ap lines_of (append_assoc line (10 ∷ []) (text_of_lines lines))
    ∙ first_line line (text_of_lines lines) p.0
    ∙ ap (λ (ls : List Text). line ∷ ls) (lines_back lines p.1)

-- so the program of such a text is that of its lines
pub program_is : (lines : List Text) (program : List Line) → list_all (list_all is_line_byte) lines ≡ true
    → is_two lines ≡ false
    → lines_from false 1 lines ≡ Ok program → program_of (text_of_lines lines) ≡ Ok program
program_is lines program plain one says = search (rules, lines_back)

-- a line that ends with digits
pub line_end : (digits rest : Text) → digits ++ 10 ∷ rest ≡ (digits ++ 10 ∷ []) ++ rest
line_end digits rest = sym (append_assoc digits (10 ∷ []) rest)

-- what the lines from a number upwards say
pub data Says (two : Bool) : ℕ → List Text → List Line → Type 0 where
  ends : {k : ℕ} → Says two k [] []
  reads : {k : ℕ} {line : Text} {lines : List Text} {l : Line} {program : List Line}
      → ((rest : List Line) → and_lines k (line_of two k line) (Ok rest) ≡ Ok (l ∷ rest))
      → Says two (k + 1) lines program
      → Says two k (line ∷ lines) (l ∷ program)

-- a line with a statement, before others
pub says : {two : Bool} {k : ℕ} {line : Text} {lines : List Text} {label : Option Text} {statement : Option Statement}
    {program : List Line} → line_of two k line ≡ Ok (record { label = label; statement = statement })
    → Says two (k + 1) lines program
    → Says two k (line ∷ lines) (record { number = k; label = label; statement = statement } ∷ program)
says {k = k} here rest = reads (λ program i. and_lines k (here i) (Ok program)) rest

-- lines that say so are read so, if there are at most 2000
pub said_lines : {two : Bool} {k : ℕ} {lines : List Text} {program : List Line} → Says two k lines program
    → k + length lines ≤ 2001 → lines_from two k lines ≡ Ok program
said_lines ends few = refl
said_lines {two} {k} (reads {line = line} {lines = lines} {program = program} here rest) few =
    search (rules, ne_eqb, said_lines rest (omega (arith, few)))

-- what a line says, by its parts
pub by_parts : (two : Bool) {label : Option Text} {statement : Option Statement} (k : ℕ) (line : Text)
    (parts : List LinePart) → list_all is_line_byte line ≡ true → length line ≤ 120 → parts_of line ≡ Some parts
    → form_at two k parts ≡ Some (Some (record { label = label; statement = statement }))
    → line_of two k line ≡ Ok (record { label = label; statement = statement })
by_parts two k line parts plain short are is = grind (arith, common_steps)
