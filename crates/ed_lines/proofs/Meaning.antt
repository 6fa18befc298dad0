-- What the tests of a program's lines say.
use Rattle.ed_lines.proofs.Kit.{[], arith, Bool, IfSome, length, List, nat_lt, neg_ℤ, None, Option, pos, Some}
use Rattle.ed_lines.proofs.Kit.{true, ℕ, ℤ, ◌<◌, ◌^◌, ◌∷◌, ◌≡◌, ◌≤◌, list_all, and_parts}
use Rattle.ed_lines.proofs.Kit.{nat_tests, is_name, is_place_name, is_base, is_operand, is_setting}
use Rattle.ed_lines.proofs.Kit.{is_statement, Operand, Setting, Statement, rules}
use Rattle.std.proofs.Common.{◌≤ℤ◌, All}
use Rattle.std.proofs.lemmas.List.Elements.{All-cons}
use Rattle.ed_lines.specs.declared.program.Operand.TheVariants as operands
use Rattle.ed_lines.specs.declared.program.Statement.TheVariants as statements

-- a number that an operand adds to a name or subtracts from it
pub record IsOffset (plus : ℤ) : Type 0 where
  pub low : neg_ℤ (pos 1023) ≤ℤ plus
  pub high : plus ≤ℤ pos 1023

-- an operand with its number in its range
abbrev pub IsOperand : Bool → Operand → Type 0
IsOperand two (operands.Number n) = n ≤ 32767
IsOperand two (operands.Label name plus) = (is_place_name two name ≡ true) × IsOffset plus
IsOperand two (operands.Two first second minus) =
    (two ≡ true) × ((is_place_name two first ≡ true) × (is_place_name two second ≡ true))

-- a setting: the codes of H N M & L X are 21 to 26
pub record IsSetting (two : Bool) (s : Setting) : Type 0 where
  pub low : 21 ≤ s.letter
  pub high : s.letter ≤ 26
  pub operand : IsOperand two s.operand

-- rows: at least one, and each a code
abbrev pub AreRows : List ℕ → Type 0
AreRows codes = (0 < length codes) × (list_all (λ c. nat_lt c 32) codes ≡ true)

-- a statement with its numbers in their ranges
abbrev pub IsStatement : Bool → Statement → Type 0
IsStatement two (statements.Segment name base) = (is_name name ≡ true) × IfSome base (λ b. b ≤ 1023)
IsStatement two (statements.Order function operand length) = (function < 32) × IsOperand two operand
IsStatement two (statements.Number value) = value < 2 ^ 17
IsStatement two (statements.Text codes) = AreRows codes.items
IsStatement two (statements.Fetch routine name settings) =
    (is_name routine ≡ true) × ((is_name name ≡ true) × All (IsSetting two) settings.items)
IsStatement two (statements.Enter name) = is_name name ≡ true
IsStatement two (statements.Rows codes) = AreRows codes.items
IsStatement two (statements.Long value) = (two ≡ true) × (value < 2 ^ 35)

-- ---- from the tests to the facts

operand_fact : (two : Bool) (o : Operand) → is_operand two o ≡ true → IsOperand two o
operand_fact two o h = search rules

setting_fact : (two : Bool) (s : Setting) → is_setting two s ≡ true → IsSetting two s
setting_fact two s h = search (rules, operand_fact)

settings_fact : (two : Bool) (ss : List Setting) → list_all (is_setting two) ss ≡ true → All (IsSetting two) ss
settings_fact two [] h = λ k d below. absurd (omega arith)
settings_fact two (s ∷ ss) h =
    let parts = and_parts _ _ h
    in All-cons (IsSetting two) s ss (setting_fact two s parts.0) (settings_fact two ss parts.1)

base_fact : (base : Option ℕ) → is_base base ≡ true → IfSome base (λ b. b ≤ 1023)
base_fact None h = tt
base_fact (Some b) h = grind (arith, nat_tests)

pub statement_fact : (two : Bool) (s : Statement) → is_statement two s ≡ true → IsStatement two s
statement_fact two s h = search (rules, base_fact, operand_fact, settings_fact)
