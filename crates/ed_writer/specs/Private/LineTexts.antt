-- The answer to writing lines, without regard to `version 2`.
use Rattle.std.specs.Prelude.{◌≡◌, ◌==◌, ◌&&◌, ◌||◌, Bool, List, Some, None}
use Rattle.ed_words.specs.Texts.{Text}
use Rattle.ed_lines.specs.declared.program.Line.{Line}
use Rattle.ed_syntax.specs.Forms.{has_few_settings}
use Rattle.ed_writer.specs.Answers.{long_line}
use Rattle.ed_syntax.specs.Written.{text_of_program}
use Rattle.ed_writer.specs.declared.fault.WriteFault.{WriteFault}
use Rattle.ed_writer.specs.declared.fault.WriteFault.TheVariants.{Memory}

-- no line is too long, and this is their text
pub record IsTextOfLines (two : Bool) (lines : List Line) (text : Text) : Type 0 where
  pub none_long : long_line two lines ≡ None
  pub is : text ≡ text_of_program two lines

-- this is the fault of the first line that is too long, or memory ran out
abbrev pub IsLinesFault : Bool → List Line → WriteFault → Type 0
IsLinesFault two lines Memory = Unit {0}
IsLinesFault two lines fault = long_line two lines ≡ Some fault

-- a line that is written as `version 2`, or one whose statement has at most six settings
abbrev pub has_few : Bool → Line → Bool
has_few two l = (two && l.number == 1) || has_few_settings l.statement
