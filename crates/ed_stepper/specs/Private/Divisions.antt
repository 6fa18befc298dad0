-- How an input is divided, byte by byte. No public clause cites this.
use Rattle.std.specs.Prelude.{ℕ, ◌==◌, Bool, true, [], ◌∷◌, slice_index_or, if◌then◌else◌, Option, Some, None}
use Rattle.ed_words.specs.Texts.{Text}
use Rattle.ed_syntax.specs.Lines.{lines_of}
use Rattle.ed_stepper.specs.Inputs.{Input, text_kind_of}
use Rattle.ed_stepper.specs.declared.inputs.TextKind.{TextKind}

-- the first line of a text, without its end
abbrev pub first_line : Text → Text
first_line text = slice_index_or (lines_of text) 0 []

-- what follows the first line and its end
abbrev pub after_line : Text → Text
after_line [] = []
after_line (b ∷ bs) = if b == 10 then bs else after_line bs

-- one more byte before the script
abbrev pub with_byte_before : ℕ → Option Input → Option Input
with_byte_before b None = None
with_byte_before b (Some i) = Some (record i { script = b ∷ i.script })

-- the input is divided here if a line announces a text, else further on
abbrev pub at_line : Option TextKind → Text → Option Input → Option Input
at_line (Some kind) text later = Some (record { script = []; kind = kind; text = after_line text })
at_line None text later = later

-- an input, which begins at the beginning of a line or not, divided by the first line that announces a text
abbrev pub input_at : Bool → Text → Option Input
input_at begins [] = None
input_at begins (b ∷ bs) =
    at_line (if begins then text_kind_of (first_line (b ∷ bs)) else None) (b ∷ bs)
    (with_byte_before b (input_at (b == 10) bs))

-- an input, divided
abbrev pub input_of : Text → Option Input
input_of input = input_at true input
