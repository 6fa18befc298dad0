-- What the code takes from the front of a text.
use Rattle.std.specs.Prelude.{◌≡◌, ◌<◌, List, ◌∷◌, ◌++◌, length, Result, Ok, Err}
use Rattle.ed_words.specs.Texts.{Text}
use Rattle.ed_syntax.specs.Lines.{lines_of}
use Rattle.ed_syntax.specs.Reading.Sources.{Fault}
use Rattle.ed_lines.specs.declared.program.Line.{Line}

-- the first line, and what follows its end
pub record TakesLine (text line rest : Text) : Type 0 where
  pub lines : lines_of text ≡ line ∷ lines_of rest
  pub shorter : length rest < length text

-- lines in front of others
abbrev pub with_lines_before : List Line → Result (List Line) Fault → Result (List Line) Fault
with_lines_before xs (Ok ys) = Ok (xs ++ ys)
with_lines_before xs (Err e) = Err e
