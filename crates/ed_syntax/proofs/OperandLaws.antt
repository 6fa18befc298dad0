-- An operand is read if and only if it is spelled.
use Rattle.ed_syntax.proofs.Kit.{[], ap, Bool, false, inl, inr, List, nat_le, not, Option, rules}
use Rattle.ed_syntax.proofs.Kit.{pos, refl, Some, true, ℕ, ◌&&◌, ◌++◌, ◌==◌, ◌∙◌, ◌∷◌, ◌≡◌}
use Rattle.ed_syntax.proofs.Kit.{and_parts, Decides-eqb, value, Text, difference}
use Rattle.ed_syntax.proofs.Kit.{minus, name, number, plus, SpellsOperand, sum}
use Rattle.ed_syntax.proofs.Kit.{is_place_name, is_number, LinePart, run, sign, with_sign, is_plus_or_minus}
use Rattle.ed_syntax.proofs.Kit.{Operand}
use Rattle.ed_syntax.proofs.Readings.{ranged, IsSpelled, out_of_range, in_range, IsSpelledFirst, none, first}
use Rattle.ed_syntax.proofs.Readings.{map_ranged, by_range, by_test, if_passed}
use Rattle.std.proofs.lemmas.Bool.{or_cases, cond_both, not-true}
use Rattle.ed_syntax.specs.Reading.Grammar
use Rattle.ed_lines.specs.declared.program.Operand.TheVariants as operands

-- ---- a name is not a number

pub place_name_is_no_number : (two : Bool) (a : Text) → is_place_name two a ≡ true → is_number a ≡ false
place_name_is_no_number two a e = search rules

-- ---- what is spelled is read

-- what may follow an operand
abbrev pub ends : List LinePart → Bool
ends (sign s ∷ parts) = not (is_plus_or_minus s)
ends parts = true

-- a number or a name, and no sign after it
alone : (two : Bool) (r : Text) (rest : List LinePart) → ends rest ≡ true
    → Grammar.operand two (run r ∷ rest) ≡ Grammar.with_rest rest (Grammar.single two r)
alone two r rest e = search (rules, not-true)

single_number : (two : Bool) (n : Text) → is_number n ≡ true
    → Grammar.single two n ≡ Some (ranged (nat_le (value n) 32767) (operands.Number (value n)))
single_number two n e = rw e (ap (λ (x : Option Operand). Some x) (map_ranged operands.Number _ (value n)))

single_name : (two : Bool) (a : Text) → is_place_name two a ≡ true
    → Grammar.single two a ≡ Some (Some (operands.Label a (pos 0)))
single_name two a e = let other = place_name_is_no_number two a e in simp (other, e)

joined_number : (two : Bool) (a n : Text) (s : ℕ) → is_place_name two a ≡ true → is_number n ≡ true
    → Grammar.joined_operand two a s n
    ≡ Some (ranged (nat_le (value n) 1023) (operands.Label a (with_sign (s == 45) (value n))))
joined_number two a n s e f = search (rules, map_ranged)

joined_name : (two : Bool) (a b : Text) (s : ℕ) → is_place_name two a ≡ true → is_place_name two b ≡ true
    → two ≡ true → Grammar.joined_operand two a s b ≡ Some (Some (operands.Two a b (s == 45)))
joined_name two a b s e f g = let other = place_name_is_no_number two b f in simp (e, other, f) (rw g refl)

pub operand_is_read : (two : Bool) (ps : List LinePart) (o : Operand) (fits : Bool) (rest : List LinePart)
    → SpellsOperand two ps o fits → ends rest ≡ true → Grammar.operand two (ps ++ rest) ≡ Some (ranged fits o, rest)
operand_is_read two _ _ _ rest (number n e) h =
    alone two n rest h ∙ ap (Grammar.with_rest rest) (single_number two n e)
operand_is_read two _ _ _ rest (name a e) h = alone two a rest h ∙ ap (Grammar.with_rest rest) (single_name two a e)
operand_is_read two _ _ _ rest (plus a n e f) h = ap (Grammar.with_rest rest) (joined_number two a n 43 e f)
operand_is_read two _ _ _ rest (minus a n e f) h = ap (Grammar.with_rest rest) (joined_number two a n 45 e f)
operand_is_read two _ _ _ rest (sum a b e f g) h = ap (Grammar.with_rest rest) (joined_name two a b 43 e f g)
operand_is_read two _ _ _ rest (difference a b e f g) h = ap (Grammar.with_rest rest) (joined_name two a b 45 e f g)

-- ---- what is read is spelled

single_spelled : (two : Bool) (r : Text) → IsSpelled (SpellsOperand two) (run r ∷ []) (Grammar.single two r)
single_spelled two r = by_test (is_number r) (λ e. by_range operands.Number _ _ (number r e))
    (λ _. if_passed (is_place_name two r) (λ f. in_range _ (name r f)))

-- a name, a plus or a minus, and more
joined_spelled : (two : Bool) (a n : Text) (s : ℕ) → is_plus_or_minus s ≡ true
    → IsSpelled (SpellsOperand two) (run a ∷ sign s ∷ run n ∷ []) (Grammar.joined_operand two a s n)
joined_spelled two a n s h = elim (or_cases (s == 43) (s == 45) h) [
  | inl is ↦ rw ((Decides-eqb s 43).0 is) (if_passed (is_place_name two a) (λ e. by_test (is_number n)
      (λ f. by_range (λ k. operands.Label a (with_sign false k)) _ _ (plus a n e f))
      (λ _. if_passed (two && is_place_name two n) (λ g.
      let p = and_parts two _ g in in_range _ (sum a n e p.1 p.0)))))
  | inr is ↦ rw ((Decides-eqb s 45).0 is) (if_passed (is_place_name two a) (λ e. by_test (is_number n)
      (λ f. by_range (λ k. operands.Label a (with_sign true k)) _ _ (minus a n e f))
      (λ _. if_passed (two && is_place_name two n) (λ g.
      let p = and_parts two _ g in in_range _ (difference a n e p.1 p.0)))))
]

-- an operand with what is left after it
left : {two : Bool} {o : Option (Option Operand)} (ps rest : List LinePart) → IsSpelled (SpellsOperand two) ps o
    → IsSpelledFirst (SpellsOperand two) (ps ++ rest) (Grammar.with_rest rest o)
left ps rest s = search (rules, none, first, out_of_range, in_range)

pub operand_is_spelled : (two : Bool) (parts : List LinePart)
    → IsSpelledFirst (SpellsOperand two) parts (Grammar.operand two parts)
operand_is_spelled two (run r ∷ sign s ∷ run n ∷ parts) =
    cond_both (is_plus_or_minus s) _ _ (IsSpelledFirst (SpellsOperand two) (run r ∷ sign s ∷ run n ∷ parts))
    (λ e. left (run r ∷ sign s ∷ run n ∷ []) parts (joined_spelled two r n s e))
    (λ _. left (run r ∷ []) _ (single_spelled two r))
operand_is_spelled two (run r ∷ sign s ∷ parts) =
    cond_both (is_plus_or_minus s) _ _ (IsSpelledFirst (SpellsOperand two) (run r ∷ sign s ∷ parts))
    (λ _. none) (λ _. left (run r ∷ []) _ (single_spelled two r))
operand_is_spelled two (run r ∷ parts) = left (run r ∷ []) parts (single_spelled two r)
operand_is_spelled two parts = none
