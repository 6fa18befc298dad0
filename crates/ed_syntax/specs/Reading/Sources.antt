-- The lines of a source, read one after the other up to the first fault of form.
use Rattle.std.specs.Prelude.{ℕ, ◌+◌, ◌==◌, not, Bool, false, List}
use Rattle.std.specs.Prelude.{[], ◌∷◌, length, nat_lt, if◌then◌else◌}
use Rattle.std.specs.Prelude.{Option, Some, None, Result, Ok, Err, option_and_then}
use Rattle.std.specs.List.{list_all}
use Rattle.ed_words.specs.Texts.{Text}
use Rattle.ed_syntax.specs.Lines.{lines_of}
use Rattle.ed_syntax.specs.Parts.{LinePart, is_line_byte}
use Rattle.ed_syntax.specs.Reading.Parts.{parts_of}
use Rattle.ed_syntax.specs.Reading.Grammar.{Ranged, form_at, is_version_two}
use Rattle.ed_syntax.specs.declared.form.Form.{Form}
use Rattle.ed_lines.specs.declared.program.Line.{Line}
use Rattle.ed_lines.specs.declared.fault.SourceCause.{SourceCause}
use Rattle.ed_lines.specs.declared.fault.SourceCause.TheVariants.{BadByte, LongLine, NotAStatement}
use Rattle.ed_lines.specs.declared.fault.SourceCause.TheVariants.{NumberRange, TooManyLines}

-- a fault with the number of its line
pub record Fault : Type 0 where
  pub line : ℕ
  pub cause : SourceCause

-- a line with no form, with a form and a number out of its range, or with a form
abbrev pub or_cause : Option (Ranged Form) → Result Form SourceCause
or_cause None = Err NotAStatement
or_cause (Some None) = Err NumberRange
or_cause (Some (Some f)) = Ok f

-- what the line with the number k says, or its fault with the least number
abbrev pub line_of : Bool → ℕ → Text → Result Form SourceCause
line_of two k line = if not (list_all is_line_byte line) then Err BadByte
    else if nat_lt 120 (length line) then Err LongLine
    else or_cause (option_and_then (form_at two k) (parts_of line))

-- a line before others
abbrev pub with_first : Line → Result (List Line) Fault → Result (List Line) Fault
with_first l (Ok rest) = Ok (l ∷ rest)
with_first l (Err e) = Err e

-- the line k, and the lines after it
abbrev pub and_lines : ℕ → Result Form SourceCause → Result (List Line) Fault → Result (List Line) Fault
and_lines k (Err c) rest = Err (record { line = k; cause = c })
and_lines k (Ok f) rest = with_first (record { number = k; label = f.label; statement = f.statement }) rest

-- what the lines from number k upwards say, or the fault of the first of them that has one
abbrev pub lines_from : Bool → ℕ → List Text → Result (List Line) Fault
lines_from two k [] = Ok []
lines_from two k (line ∷ rest) = if k == 2001 then Err (record { line = k; cause = TooManyLines })
    else and_lines k (line_of two k line) (lines_from two (k + 1) rest)

-- whether a line has the form `version 2`
abbrev pub says_two : Option (List LinePart) → Bool
says_two None = false
says_two (Some parts) = is_version_two parts

-- whether a source is of version 2, by its first line
abbrev pub is_two : List Text → Bool
is_two [] = false
is_two (line ∷ rest) = says_two (parts_of line)

-- the version of a source, 1 or 2
abbrev pub version_of : Text → ℕ
version_of text = if is_two (lines_of text) then 2 else 1

-- the lines of a source, or its fault of form: that of the first faulty line, with the least number
abbrev pub program_of : Text → Result (List Line) Fault
program_of text = lines_from (is_two (lines_of text)) 1 (lines_of text)
