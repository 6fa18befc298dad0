-- How a program is written as a text: one line of text for each line, with single blanks and numbers in decimal (this
-- project's own rule).
use Rattle.std.specs.Prelude.{ℕ, zero, suc, ◌==◌, ◌&&◌, Bool, ℤ, pos, negsuc, if◌then◌else◌}
use Rattle.std.specs.Prelude.{List, [], ◌∷◌, ◌++◌, codes, map, slice_index, Option, Some, None}
use Rattle.std.specs.Fmt.{decimal}
use Rattle.ed_codes.specs.Spelling.{letters}
use Rattle.ed_words.specs.Texts.{Text}
use Rattle.ed_lines.specs.declared.program.Operand.{Operand}
use Rattle.ed_lines.specs.declared.program.Operand.TheVariants as operands
use Rattle.ed_lines.specs.declared.program.Setting.{Setting}
use Rattle.ed_lines.specs.declared.program.Statement.{Statement}
use Rattle.ed_lines.specs.declared.program.Statement.TheVariants as statements
use Rattle.ed_lines.specs.declared.program.Line.{Line}

-- the letter or sign of a row, as of a function
abbrev pub row_letter : ℕ → ℕ
row_letter code = slice_index letters code

-- rows between quotes (34)
abbrev pub string_text : List ℕ → Text
string_text rows = 34 ∷ map row_letter rows ++ 34 ∷ []

-- what is added to a name: nothing for 0, else plus (43) or minus (45) and the number
abbrev pub plus_text : ℤ → Text
plus_text (pos zero) = []
plus_text (pos (suc n)) = 43 ∷ decimal (suc n)
plus_text (negsuc n) = 45 ∷ decimal (suc n)

-- an operand: `N`, `NAME`, `NAME+N`, `NAME-N`, `NAME+NAME` or `NAME-NAME`
abbrev pub operand_text : Operand → Text
operand_text (operands.Number n) = decimal n
operand_text (operands.Label name plus) = name ++ plus_text plus
operand_text (operands.Two first second minus) = first ++ (if minus then 45 else 43) ∷ second

-- the operand of an order, after a blank; the number 0 is not written
abbrev pub order_operand : Operand → Text
order_operand (operands.Number zero) = []
order_operand o = 32 ∷ operand_text o

-- the length of an order: D (68) or F (70)
abbrev pub length_letter : Bool → ℕ
length_letter long = if long then 68 else 70

-- a setting: a letter, `=` (61) and an operand
abbrev pub setting_text : Setting → Text
setting_text s = row_letter s.letter ∷ 61 ∷ operand_text s.operand

-- settings: the first after these bytes, each other one after a comma and a blank
abbrev pub settings_after : Text → List Setting → Text
settings_after before [] = []
settings_after before (s ∷ ss) = before ++ (setting_text s ++ settings_after (codes ", ") ss)

-- the base of a segment, if it has one
abbrev pub base_text : Option ℕ → Text
base_text None = []
base_text (Some n) = codes " at " ++ decimal n

-- a statement
abbrev pub statement_text : Statement → Text
statement_text (statements.Segment name base) = codes "segment " ++ (name ++ base_text base)
statement_text (statements.Order function operand length) =
    row_letter function ∷ order_operand operand ++ 32 ∷ length_letter length ∷ []
statement_text (statements.Number value) = codes "word " ++ decimal value
statement_text (statements.Text rows) = codes "text " ++ string_text rows.items
statement_text (statements.Fetch routine name settings) =
    codes "use " ++ (routine ++ (codes " as " ++ (name ++ settings_after (codes " with ") settings.items)))
statement_text (statements.Enter name) = codes "enter " ++ name
statement_text (statements.Rows rows) = codes "data " ++ string_text rows.items
statement_text (statements.Long value) = codes "long " ++ decimal value

-- a line: a label and a colon (58), a statement, both with a blank (32) between, or nothing
abbrev pub form_text : Option Text → Option Statement → Text
form_text None None = []
form_text (Some label) None = label ++ 58 ∷ []
form_text None (Some s) = statement_text s
form_text (Some label) (Some s) = label ++ 58 ∷ 32 ∷ statement_text s

-- a line by its number: in version 2 the first line is `version 2`
abbrev pub line_text : Bool → Line → Text
line_text two l = if two && l.number == 1 then codes "version 2" else form_text l.label l.statement

-- the text of a program: each line with its end (10)
abbrev pub text_of_program : Bool → List Line → Text
text_of_program two [] = []
text_of_program two (l ∷ ls) = line_text two l ++ 10 ∷ text_of_program two ls
