-- The value of an operand on a line (this project's own rule).
use Rattle.std.specs.Prelude.{ℕ, Bool, List, Option, Some, None, if◌then◌else◌, ℤ, pos, ◌+ℤ◌, ◌-ℤ◌}
use Rattle.ed_lines.specs.declared.program.Operand.{Operand}
use Rattle.ed_lines.specs.declared.program.Operand.TheVariants.{Number, Label, Two}
use Rattle.ed_lines.specs.declared.program.Setting.{Setting}
use Rattle.ed_symbols.specs.Names.{place_on}
use Rattle.ed_symbols.specs.declared.symbols.Definition.{Definition}

-- the sum or the difference of two locations
abbrev pub sum_of_places : Bool → Option ℕ → Option ℕ → Option ℤ
sum_of_places minus (Some a) (Some b) = Some (if minus then pos a -ℤ pos b else pos a +ℤ pos b)
sum_of_places minus _ b = None

-- a location with a number added to it
abbrev pub with_more : ℤ → Option ℕ → Option ℤ
with_more plus None = None
with_more plus (Some p) = Some (pos p +ℤ plus)

-- the value of an operand on a line of this segment; None if one of its names is unknown there
abbrev pub operand_value : List Definition → Option ℕ → Operand → Option ℤ
operand_value symbols segment (Number n) = Some (pos n)
operand_value symbols segment (Label name plus) = with_more plus (place_on symbols segment name)
operand_value symbols segment (Two first second minus) =
    sum_of_places minus (place_on symbols segment first) (place_on symbols segment second)

-- the operand of a setting
abbrev pub operand_of : Setting → Operand
operand_of t = t.operand
