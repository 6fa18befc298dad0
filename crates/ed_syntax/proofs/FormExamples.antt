-- Texts that spell lines, and texts that don't.
use Rattle.ed_syntax.proofs.Kit.{[], codes, Err, false, None, Ok, pos, refl, Some, true, ◌++◌, ◌∷◌, blank, comment}
use Rattle.ed_syntax.proofs.Kit.{HasNumberOutOfRange, IsNoStatement, labelled, one_run, one_sign, order, plus}
use Rattle.ed_syntax.proofs.Kit.{SpellsLine, array, run, sign, IsFormFault, IsProgram, BadByte, NumberRange}
use Rattle.ed_syntax.proofs.FormLaws.{just, with_label}
use Rattle.ed_syntax.proofs.LineLaws.{read_form_is_spelled, unread_is_unspelled, out_of_range_is_spelled}
use Rattle.ed_syntax.proofs.SourceLaws.{source_answer}
use Rattle.ed_syntax.specs.Reading.Grammar
use Rattle.ed_lines.specs.declared.program.Operand.TheVariants as operands
use Rattle.ed_lines.specs.declared.program.Statement.TheVariants as statements

-- ---- by hand

-- `a:A b+01F;` needs no blank
by_hand : SpellsLine false 7 (codes "a:A b+01F;")
    (with_label (codes "a") (statements.Order 28 (operands.Label (codes "b") (pos 1)) false)) true
by_hand = record {
  parts = run (codes "a") ∷ sign 58 ∷ sign 65 ∷ run (codes "b") ∷ sign 43 ∷ run (codes "01") ∷ sign 70 ∷ [];
  has_parts = one_run 97 [] _ _ refl refl (one_sign 58 _ _ refl (one_sign 65 _ _ refl (blank 32 _ _ refl
      (one_run 98 [] _ _ refl refl (one_sign 43 _ _ refl (one_run 48 (49 ∷ []) _ _ refl refl
      (one_sign 70 _ _ refl (comment []))))))));
  spells = labelled 7 (codes "a") _ _ true refl
      (order 65 28 70 (run (codes "b") ∷ sign 43 ∷ run (codes "01") ∷ []) _ false true refl
      (plus (codes "b") _ refl refl) refl);
}

-- ---- by computation: texts that spell lines

-- blanks and tabs are free, zeros may lead, and a comment may hold anything
segment_at_100 : SpellsLine false 1 (codes "  segment main  at 0100 ; \"no; string")
    (just (statements.Segment (codes "main") (Some 100))) true
segment_at_100 = read_form_is_spelled false 1 _ _ refl

-- the missing operand is the number 0
bare : SpellsLine false 1 (codes "ZF") (just (statements.Order 13 (operands.Number 0) false)) true
bare = read_form_is_spelled false 1 _ _ refl

-- -1 is 131071 modulo 2 to the 17, and so is 131071
minus_one : SpellsLine false 1 (codes "word - 1") (just (statements.Number 131071)) true
minus_one = read_form_is_spelled false 1 _ _ refl

-- keywords are names where names are expected
words_as_names : SpellsLine false 1 (codes "use use as as with H = with + 7 , N=9")
    (just (statements.Fetch (codes "use") (codes "as") (array (
    record { letter = 21; operand = operands.Label (codes "with") (pos 7) }
    ∷ record { letter = 22; operand = operands.Number 9 } ∷ [])))) true
unfolding Grammar.settings
words_as_names = read_form_is_spelled false 1 _ _ refl

-- a string
a_text : SpellsLine false 1 (codes "text\"A.B\"") (just (statements.Text (array (28 ∷ 16 ∷ 29 ∷ [])))) true
a_text = read_form_is_spelled false 1 _ _ refl

-- in version 2 local names may be in operands, two of them too
two_names : SpellsLine true 4 (codes "_d:P _d-_c F")
    (with_label (codes "_d") (statements.Order 0 (operands.Two (codes "_d") (codes "_c") true) false)) true
two_names = read_form_is_spelled true 4 _ _ refl

-- ---- by computation: texts that don't

-- two runs must not be adjacent
touching : IsNoStatement false 1 (codes "word5")
touching = unread_is_unspelled false 1 _ refl refl

-- there is no label before a segment
label_before_segment : IsNoStatement false 1 (codes "a: segment main")
label_before_segment = unread_is_unspelled false 1 _ refl refl

-- a `;` in a string begins no comment, and spells no row
semicolon : IsNoStatement false 1 (codes "text \"A;B\"")
semicolon = unread_is_unspelled false 1 _ refl refl

-- a blank in a string does not separate parts, and spells no row
blank_in_string : IsNoStatement false 1 (codes "text \"A B\"")
blank_in_string = unread_is_unspelled false 1 _ refl refl

-- a comment closes no string
open_string : IsNoStatement false 1 (codes "text \"A ; \"")
open_string = unread_is_unspelled false 1 _ refl refl

-- version 1 has no local names
local_in_one : IsNoStatement false 1 (codes "_d: P F")
local_in_one = unread_is_unspelled false 1 _ refl refl

-- a number out of its range
too_large : HasNumberOutOfRange false 1 (codes "A 32768 F")
too_large = out_of_range_is_spelled false 1 _ refl

-- a text without a form has none with numbers of any size
no_form : IsNoStatement false 1 (codes "A 32768 F F")
no_form = unread_is_unspelled false 1 _ refl refl

-- `version 2` may be on line 1 only
version_first : SpellsLine true 1 (codes "version 02") (record { label = None; statement = None }) true
version_first = read_form_is_spelled true 1 _ _ refl

version_second : IsNoStatement true 2 (codes "version 2")
version_second = unread_is_unspelled true 2 _ refl refl

-- ---- sources

-- three lines: the first ends by a carriage return and a line feed, the second is empty, the last has no end
three_lines : IsProgram (codes "enter a" ++ 13 ∷ 10 ∷ 10 ∷ codes "ZF") false (
    record { number = 1; label = None; statement = Some (statements.Enter (codes "a")) }
    ∷ record { number = 2; label = None; statement = None }
    ∷ record { number = 3; label = None; statement = Some (statements.Order 13 (operands.Number 0) false) } ∷ [])
three_lines = source_answer _ (Ok _) refl

-- a line with a number out of its range, and after it one that is not a statement
first_fault : IsFormFault (codes "enter a\nA 32768 F\nA 1") 2 NumberRange
first_fault = source_answer _ (Err _) refl

-- a carriage return that precedes no line feed is a bad byte
lone_return : IsFormFault (codes "ZF\nZF" ++ 13 ∷ []) 2 BadByte
lone_return = source_answer _ (Err _) refl

-- the version applies to all lines
version_two : IsProgram (codes "version 2\n_c: long 5") true (
    record { number = 1; label = None; statement = None }
    ∷ record { number = 2; label = Some (codes "_c"); statement = Some (statements.Long 5) } ∷ [])
version_two = source_answer _ (Ok _) refl
