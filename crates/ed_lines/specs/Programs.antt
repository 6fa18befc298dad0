-- What holds of each program: its lines are of the grammar's forms, with their numbers in their ranges (this project's
-- own rule). The argument `two` says whether the source is of version 2.
use Rattle.std.specs.Prelude.{◌≡◌, ℕ, ◌+◌, ◌^◌, ◌<◌, ◌&&◌, Bool, true, false, unsigned_abs, nat_le, nat_lt}
use Rattle.std.specs.Prelude.{List, Option, Some, None, length, slice_index_or}
use Rattle.std.specs.List.{list_all}
use Rattle.ed_lines.specs.Names.{is_name, is_place_name}
use Rattle.ed_lines.specs.declared.program.Operand.{Operand}
use Rattle.ed_lines.specs.declared.program.Operand.TheVariants as operands
use Rattle.ed_lines.specs.declared.program.Setting.{Setting}
use Rattle.ed_lines.specs.declared.program.Statement.{Statement}
use Rattle.ed_lines.specs.declared.program.Statement.TheVariants as statements
use Rattle.ed_lines.specs.declared.program.Line.{Line}

-- an operand: a number up to 32767, a name plus -1023 to 1023, or in version 2 two names
abbrev pub is_operand : Bool → Operand → Bool
is_operand two (operands.Number n) = nat_le n 32767
is_operand two (operands.Label name plus) = is_place_name two name && nat_le (unsigned_abs plus) 1023
is_operand two (operands.Two first second minus) = two && (is_place_name two first && is_place_name two second)

-- a setting: the codes of the letters H N M & L X are 21 to 26
abbrev pub is_setting : Bool → Setting → Bool
is_setting two s = (nat_le 21 s.letter && nat_le s.letter 26) && is_operand two s.operand

-- the base of a segment, if given, is at most 1023
abbrev pub is_base : Option ℕ → Bool
is_base None = true
is_base (Some b) = nat_le b 1023

-- codes of rows: at least one, and each below 32
abbrev pub are_rows : List ℕ → Bool
are_rows codes = nat_le 1 (length codes) && list_all (λ c. nat_lt c 32) codes

-- a statement
abbrev pub is_statement : Bool → Statement → Bool
is_statement two (statements.Segment name base) = is_name name && is_base base
is_statement two (statements.Order function operand length) = nat_lt function 32 && is_operand two operand
is_statement two (statements.Number value) = nat_lt value (2 ^ 17)
is_statement two (statements.Text codes) = are_rows codes.items
is_statement two (statements.Fetch routine name settings) =
    is_name routine && (is_name name && list_all (is_setting two) settings.items)
is_statement two (statements.Enter name) = is_name name
is_statement two (statements.Rows codes) = are_rows codes.items
is_statement two (statements.Long value) = two && nat_lt value (2 ^ 35)

-- a statement that may have a label
abbrev pub may_have_label : Statement → Bool
may_have_label (statements.Order function operand length) = true
may_have_label (statements.Number value) = true
may_have_label (statements.Text codes) = true
may_have_label (statements.Long value) = true
may_have_label _ = false

-- what a line says: nothing, a statement, a label, or both
abbrev pub is_form : Bool → Option (List ℕ) → Option Statement → Bool
is_form two None None = true
is_form two None (Some s) = is_statement two s
is_form two (Some label) None = is_place_name two label
is_form two (Some label) (Some s) = is_place_name two label && (may_have_label s && is_statement two s)

-- a line, without regard to its number
abbrev pub is_line : Bool → Line → Bool
is_line two l = is_form two l.label l.statement

-- the lines' numbers run from 1 upwards without a gap
abbrev pub AreNumbered : List Line → Type 0
AreNumbered lines = (k : ℕ) (d : Line) → k < length lines → (slice_index_or lines k d).number ≡ k + 1
