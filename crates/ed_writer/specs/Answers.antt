-- The answer to writing a program: its text, or the reason that it is not written (this project's own rule).
use Rattle.std.specs.Prelude.{◌≡◌, ◌&&◌, Bool, true, false, List, [], ◌∷◌, length, nat_lt, if◌then◌else◌}
use Rattle.std.specs.Prelude.{Option, Some, None, is_none}
use Rattle.ed_words.specs.Texts.{Text}
use Rattle.ed_lines.specs.declared.program.Line.{Line}
use Rattle.ed_syntax.specs.Sources.{IsProgram}
use Rattle.ed_syntax.specs.Written.{line_text, text_of_program}
use Rattle.ed_writer.specs.declared.fault.WriteFault.{WriteFault}
use Rattle.ed_writer.specs.declared.fault.WriteFault.TheVariants.{NoVersionLine, LongLine, Memory}

-- a line with neither label nor statement
abbrev pub is_bare : Line → Bool
is_bare l = is_none l.label && is_none l.statement

-- there is a line for `version 2`, or none is needed: in version 2 the first line is bare
abbrev pub has_version_place : Bool → List Line → Bool
has_version_place false lines = true
has_version_place true [] = false
has_version_place true (l ∷ ls) = is_bare l

-- the first line whose text has more than 120 bytes
abbrev pub long_line : Bool → List Line → Option WriteFault
long_line two [] = None
long_line two (l ∷ ls) =
    if nat_lt 120 (length (line_text two l)) then Some (LongLine l.number) else long_line two ls

-- the reason that a program is not written, if there is one
abbrev pub write_fault : Bool → List Line → Option WriteFault
write_fault two lines = if has_version_place two lines then long_line two lines else Some NoVersionLine

-- the program can be written, and this is its text
pub record IsTextOf (two : Bool) (lines : List Line) (text : Text) : Type 0 where
  pub faultless : write_fault two lines ≡ None
  pub is : text ≡ text_of_program two lines

-- this is the program's fault, or memory ran out
abbrev pub IsWriteFault : Bool → List Line → WriteFault → Type 0
IsWriteFault two lines Memory = Unit {0}
IsWriteFault two lines fault = write_fault two lines ≡ Some fault

-- if there is no line for `version 2`, no text says these lines, however they are spelled
abbrev pub HasNoText : Bool → List Line → WriteFault → Type 0
HasNoText two lines NoVersionLine = (text : Text) → IsProgram text two lines → ⊥
HasNoText two lines _ = Unit {0}
