-- The text of an accepted source's tape is read as its tape.
use Rattle.ed_headline.proofs.Kit.{Size, text_of, is_two, Line, program_formed, Text, lines_of, program_is_read, tape}
use Rattle.ed_headline.proofs.Kit.{[], ap, Bool, List, nat_lt, Option, refl, replicate, Some, sym, true, ℕ, ◌++◌, ◌∙◌}
use Rattle.ed_headline.proofs.Kit.{◌∷◌, ◌≡◌, list_all, length-replicate, reading, rows, canonicals, data_after}
use Rattle.ed_headline.proofs.Kit.{after_text, IsAcceptedAs}
use Rattle.ed_link.proofs.Kit.{and_parts, Spells, all_rows_are, is_line, punched_items}
use Rattle.ed_codes.specs.Text.{none}
use Rattle.ed_notation.proofs.Canonical.{are_written}
use Rattle.ed_notation.proofs.Texts.{are_codes, line_spells, text_reads}
use Rattle.ed_lines.specs.Programs.{is_statement}
use Rattle.ed_lines.specs.declared.program.Statement.{Statement}
use Rattle.ed_lines.specs.declared.program.Statement.TheVariants.{Rows}
use Rattle.ed_syntax.proofs.RunTests.{each_append}
use Rattle.ed_link.specs.Linked.{data_rows}
use Rattle.ed_link.specs.Tapes.{punched_rows}
use Rattle.ed_link.proofs.Accepted.{can_be_spelled}
use Rattle.ed_link.proofs.Inductions.{formed_statement}
use Rattle.ed_link.proofs.Texts.{both_read}
use Rattle.ed_headline.proofs.EachSource.{accepted_is_read, list_all-tables}

-- ---- the rows after the items

after_spells : (cs : List ℕ) → list_all (λ c. nat_lt c 32) cs ≡ true → Spells (after_text cs) cs
after_spells [] h = none
after_spells (c ∷ cs) h = line_spells true (c ∷ cs) (are_codes (c ∷ cs) h)

-- they are codes of rows
statement_codes : (two : Bool) (st : Option Statement)
    → ((x : Statement) → st ≡ Some x → is_statement two x ≡ true)
    → list_all (λ c. nat_lt c 32) (data_rows st) ≡ true
statement_codes two (Some (Rows codes)) formed = (and_parts _ _ (formed (Rows codes) refl)).1
statement_codes two st formed = refl

data_codes : (two : Bool) (lines : List Line) → list_all (is_line two) lines ≡ true
    → list_all (λ c. nat_lt c 32) (data_after lines) ≡ true
data_codes two [] h = refl
data_codes two (l ∷ lines) h =
    let p = and_parts _ _ h in
    each_append (λ c. nat_lt c 32) (data_rows l.statement) (data_after lines)
    (statement_codes two l.statement (formed_statement two l.number l.label l.statement p.0)) (data_codes two lines p.1)

-- ---- the whole text

pub text_is_tape : (z : Size) (source : Text) (lines : List Line) → IsAcceptedAs z source lines
    → reading (text_of (canonicals (punched_items lines)) ++ after_text (data_after lines)) ≡ rows (tape lines)
text_is_tape z source lines a =
    let two = is_two (lines_of source) in
    let formed = (program_formed two (lines_of source) lines (program_is_read source a.two lines a.says)).formed in
    let spellable =
    can_be_spelled list_all-tables z two lines (accepted_is_read z source lines a) formed (replicate 1024 0)
    (length-replicate {A = ℕ} 1024 0) in
    both_read (text_of (canonicals (punched_items lines))) (after_text (data_after lines)) (punched_rows lines)
    (data_after lines)
    (text_reads (canonicals (punched_items lines)) (are_written (punched_items lines) spellable)
    ∙ ap (λ (cs : List ℕ). rows cs) (sym (all_rows_are (punched_items lines))))
    (after_spells (data_after lines) (data_codes two lines formed))
