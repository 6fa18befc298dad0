-- The tests of a line and the sentences say the same, both ways, for the faults S7 and S8.
use Rattle.ed_symbols.proofs.Kit.{list_any, or_cases, Any-from_list_any, list_any-from_Any}
use Rattle.ed_symbols.proofs.Kit.{Line, Setting, [], ap, Bool, inl, List, Option, refl, Some, true, ℕ}
use Rattle.ed_symbols.proofs.Kit.{ℤ, ◌||◌, ◌∷◌, ◌≡◌, ◌⊎◌, counter_after, is_no_address, is_unknown, names_unknown}
use Rattle.ed_symbols.proofs.Kit.{reaches_outside, symbols_from, operand_of, first_counter, segment_of, Definition}
use Rattle.std.proofs.Common.{map, pos, int_lt}
use Rattle.ed_lines.specs.declared.program.Operand.{Operand}
use Rattle.ed_lines.specs.declared.program.Statement.{Statement}
use Rattle.ed_symbols.specs.NameFaults.{HasOperand, HasName, NamesUnknown, ReachesOutside}
use Rattle.ed_symbols.specs.NameTests.{any_operand, enters_unknown, is_far}
use Rattle.ed_symbols.specs.Operands.{operand_value}
use Rattle.ed_symbols.proofs.Sentences.{Ties}
use Rattle.ed_lines.specs.declared.program.Operand.TheVariants as operands
use Rattle.ed_symbols.proofs.Kit.{rules}

-- ---- S7 and S8: the operands

settings_same : (test : Operand → Bool) (ts : List Setting)
    → list_any (λ t. test (operand_of t)) ts ≡ list_any test (map operand_of ts)
settings_same test [] = refl
settings_same test (t ∷ ts) = ap (λ b. test (operand_of t) || b) (settings_same test ts)

-- an operand of the statement passes the test
abbrev Passes : (Operand → Bool) → Option Statement → Type 0
Passes test st = (o : Operand) × HasOperand st o × (test o ≡ true)

operand_says : (test : Operand → Bool) (st : Option Statement) → any_operand test st ≡ true → Passes test st
operand_says test st h = search (rules, Any-from_list_any, settings_same)

operand_tests : (test : Operand → Bool) (st : Option Statement) → Passes test st → any_operand test st ≡ true
operand_tests test st h = search (rules, settings_same, list_any-from_Any)

module _ (lines before : List Line) (l : Line) where
  abbrev here : Option ℕ
  here = segment_of l (counter_after before)

  unknown_by : (any_operand (is_unknown (symbols_from first_counter lines) here) l.statement ≡ true)
      ⊎ (enters_unknown (symbols_from first_counter lines) l.statement ≡ true) → NamesUnknown lines before l
  unknown_by h = search (rules, operand_says)

  unknown_of : NamesUnknown lines before l → names_unknown (symbols_from first_counter lines) l
      (counter_after before) ≡ true
  unknown_of h = search (rules, operand_tests)

  pub Ties-s7 : Ties (names_unknown (symbols_from first_counter lines) l (counter_after before))
      (NamesUnknown lines before l)
  Ties-s7 = search (rules, or_cases, unknown_by, unknown_of)

-- the value of an operand with a name is not an address
abbrev IsFar : List Definition → Option ℕ → Operand → Type 0
IsFar symbols g o = (name : List ℕ) × HasName o name × (v : ℤ) × (operand_value symbols g o ≡ Some v)
    × ((int_lt v (pos 0) ≡ true) ⊎ (int_lt (pos 1023) v ≡ true))

far_says : (o : Option ℤ) → is_far o ≡ true
    → (v : ℤ) × (o ≡ Some v) × ((int_lt v (pos 0) ≡ true) ⊎ (int_lt (pos 1023) v ≡ true))
far_says o h = search rules

no_address_says : (symbols : List Definition) (g : Option ℕ) (o : Operand) → is_no_address symbols g o ≡ true
    → IsFar symbols g o
no_address_says symbols g (operands.Number n) h = cc
no_address_says symbols g (operands.Label name plus) h = search (rules, far_says)
no_address_says symbols g (operands.Two first second minus) h =
    let f = far_says _ h in (first, inl refl, f.0, f.1, f.2)

no_address_tests : (symbols : List Definition) (g : Option ℕ) (o : Operand) → IsFar symbols g o
    → is_no_address symbols g o ≡ true
no_address_tests symbols g o h = search rules

pub Ties-s8 : (lines before : List Line) (l : Line)
    → Ties (reaches_outside (symbols_from first_counter lines) l (counter_after before)) (ReachesOutside lines before l)
Ties-s8 lines before l = search (rules, operand_says, no_address_says, operand_tests, no_address_tests)
