-- The input of the command that runs a script: the script's lines, a dividing line, and a tape's text or a source
-- (this project's own rule). Its lines are those of `HasLines`.
use Rattle.std.specs.Prelude.{◌≡◌, ℕ, false, length, List, [], ◌∷◌, ◌++◌, codes, if◌then◌else◌, Option, Some, None}
use Rattle.std.specs.Str.{bytes_eq}
use Rattle.std.specs.List.{All}
use Rattle.ed_words.specs.Texts.{Text}
use Rattle.ed_syntax.specs.Lines.{HasLines, has_end, without_return}
use Rattle.ed_stepper.specs.declared.inputs.Divided.{Divided}
use Rattle.ed_stepper.specs.declared.inputs.TextKind.{TextKind}
use Rattle.ed_stepper.specs.declared.inputs.TextKind.TheVariants.{Tape, Source}

-- what a line announces, if it is a dividing line: it is exactly `tape` or `source`
abbrev pub text_kind_of : Text → Option TextKind
text_kind_of line = if bytes_eq line (codes "tape") then Some Tape else if bytes_eq line (codes "source")
    then Some Source else None

-- a divided input: the bytes of the script, and the kind and the bytes of the text after the dividing line
pub record Input : Type 0 where
  pub script : Text
  pub kind : TextKind
  pub text : Text

-- An input is divided by the first of its lines that announces a text. The script is the lines before it, and the text
-- is what follows it.
pub data IsDivided : Text → Input → Type 0 where
  by_last : (line : Text) (kind : TextKind) → has_end line ≡ false → text_kind_of line ≡ Some kind
      → IsDivided line (record { script = []; kind = kind; text = [] })
  by_line : (line text : Text) (kind : TextKind) → has_end line ≡ false
      → text_kind_of (without_return line) ≡ Some kind
      → IsDivided (line ++ 10 ∷ text) (record { script = []; kind = kind; text = text })
  further_on : (line text : Text) (i : Input) → has_end line ≡ false → text_kind_of (without_return line) ≡ None
      → IsDivided text i → IsDivided (line ++ 10 ∷ text) (record i { script = line ++ 10 ∷ i.script })

-- the input has these lines, and none of them announces a text
pub record IsUndivided (input : Text) (lines : List Text) : Type 0 where
  pub has_lines : HasLines input lines
  pub none : All (λ line. text_kind_of line ≡ None) lines

-- the input has this number of lines
abbrev pub HasLineCount : Text → ℕ → Type 0
HasLineCount input count = (lines : List Text) × HasLines input lines × (count ≡ length lines)

-- the parts that are found are those of the input, or it has none
abbrev pub Divides : Text → Option Divided → Type 0
Divides input None = (lines : List Text) × IsUndivided input lines
Divides input (Some d) = IsDivided input (record { script = d.script.now; kind = d.kind; text = d.text.now })
