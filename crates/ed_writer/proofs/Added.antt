-- A text of lines that grows by one line.
use Rattle.ed_syntax.proofs.Kit.{[], ap, append_assoc, Bool, drop, Err, false, get_or, IfOk, length, List, map, Ok}
use Rattle.ed_syntax.proofs.Kit.{refl, Result, Some, sym, take, true, ℕ, ◌++◌, ◌+◌, ◌<◌, ◌||◌, ◌∙◌, ◌∷◌, ◌≡◌, ◌≤◌}
use Rattle.ed_syntax.proofs.Kit.{list_all, le-ltb, lt-ltb, map-append, Text, line_text, row_letter, text_of_program}
use Rattle.ed_writer.specs.Answers.{long_line}
use Rattle.ed_writer.specs.Private.LineTexts.{has_few}
use Rattle.ed_lines.specs.declared.program.Line.{Line}
use Rattle.ed_writer.specs.declared.fault.WriteFault.TheVariants.{LongLine}
use Rattle.std.proofs.lemmas.List.{at_drop_more, take_more}

-- a function of the lines from the place of this line on
front : {A : Type 0} (f : List Line → A) (lines : List Line) (place : ℕ) (line : Line) → place < length lines
    → line ≡ get_or lines place line → f (drop place lines) ≡ f (line ∷ drop (place + 1) lines)
front f lines place line below is =
    at_drop_more f lines place line below ∙ ap (λ (l : Line). f (l ∷ drop (place + 1) lines)) (sym is)

-- the text with the line and its end, and then that of the lines after it
pub text_added : (two : Bool) (lines : List Line) (place : ℕ) (line : Line) (before : Text) → place < length lines
    → line ≡ get_or lines place line
    → ((before ++ line_text two line) ++ 10 ∷ []) ++ text_of_program two (drop (place + 1) lines)
    ≡ before ++ text_of_program two (drop place lines)
text_added two lines place line before below is =
    append_assoc _ (10 ∷ []) _ ∙ append_assoc before _ _
    ∙ ap (λ (t : Text). before ++ t) (sym (front (text_of_program two) lines place line below is))

-- a line that is short is no fault
pub short_passed : (two : Bool) (lines : List Line) (place : ℕ) (line : Line) → place < length lines
    → line ≡ get_or lines place line → length (line_text two line) ≤ 120
    → long_line two (drop (place + 1) lines) ≡ long_line two (drop place lines)
short_passed two lines place line below is short =
    sym (front (long_line two) lines place line below is ∙ rw (le-ltb 120 (length (line_text two line)) short) refl)

-- a line of more than 120 characters is found as too long
pub long_found : (two : Bool) (lines : List Line) (place : ℕ) (line : Line) → place < length lines
    → line ≡ get_or lines place line → 120 < length (line_text two line)
    → long_line two (drop place lines) ≡ Some (LongLine line.number)
long_found two lines place line below is long =
    front (long_line two) lines place line below is ∙ rw (lt-ltb 120 (length (line_text two line)) long) refl

-- a line with few settings
pub few_passed : (two : Bool) (lines : List Line) (place : ℕ) (line : Line) → place < length lines
    → line ≡ get_or lines place line → has_few two line ≡ true
    → list_all (has_few two) (drop (place + 1) lines) ≡ list_all (has_few two) (drop place lines)
few_passed two lines place line below is few =
    sym (front (list_all (has_few two)) lines place line below is ∙ rw few refl)

-- the letters of rows with one more
pub letter_added : (before text : Text) (rows : List ℕ) (place code : ℕ) → place < length rows
    → code ≡ get_or rows place code → text ≡ before ++ map row_letter (take place rows)
    → text ++ row_letter code ∷ [] ≡ before ++ map row_letter (take (place + 1) rows)
letter_added before text rows place code below is written =
    let last = row_letter code ∷ [] in
    let taken : take (place + 1) rows ≡ take place rows ++ code ∷ [] =
    take_more rows place code below ∙ ap (λ (c : ℕ). take place rows ++ c ∷ []) (sym is) in
    ap (λ (t : Text). t ++ last) written ∙ append_assoc before _ last
    ∙ ap (λ (t : Text). before ++ t) (sym (ap (map row_letter) taken ∙ map-append row_letter _ (code ∷ [])))

-- bytes and then others, where memory was found for the others too
pub both_added : {A E : Type 0} (r : Result A E) (text first second between whole : Text)
    → IfOk r (λ _. whole ≡ between ++ second) → between ≡ text ++ first
    → IfOk r (λ _. whole ≡ text ++ (first ++ second))
both_added (Ok a) text first second between whole h e =
    h ∙ ap (λ (t : Text). t ++ second) e ∙ append_assoc text first second
both_added (Err f) text first second between whole h e = tt

-- what holds in any case, where memory was found
pub in_any_case : {A E P : Type 0} (r : Result A E) → P → IfOk r (λ _. P)
in_any_case (Ok a) p = p
in_any_case (Err e) p = tt

-- a line has few settings if its statement has, whether it is written or not
pub few_anyway : {A E : Type 0} (r : Result A E) (first few : Bool) → IfOk r (λ _. few ≡ true)
    → IfOk r (λ _. (first || few) ≡ true)
few_anyway (Ok a) true few h = refl
few_anyway (Ok a) false few h = h
few_anyway (Err e) first few h = tt
