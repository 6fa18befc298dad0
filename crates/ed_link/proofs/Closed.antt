-- What the catalogue says of a routine that is found: it has an item, its items can be spelled, and its code letters
-- are F, θ, D or its parameters. `tables` is the clause of the catalogue that all its routines are ready.
use Rattle.ed_link.proofs.Kit.{rules, AllPass-from_list_all, [], arith, Bool, length, List}
use Rattle.ed_link.proofs.Kit.{Option, Some, true, ℕ, ◌+◌, ◌<◌, ◌∷◌, ◌≡◌, list_all, and_parts}
use Rattle.ed_link.proofs.Kit.{eqb-true, ltb-true, Operand, Setting, ◌==◌, catalogue, entry, is_ready}
use Rattle.ed_link.proofs.Kit.{is_ready_row, find, TableRow, is_some, list_any, sets, set_to}
use Rattle.ed_library.specs.Entries.{Routine}
use Rattle.ed_library.specs.Ready.{is_parameter}
use Rattle.ed_library.specs.Routines.{find_from}
use Rattle.ed_link.proofs.Uses.{IsKnown, AreKnown}

-- the same of the whole list
found_in : (text : List ℕ) (k r : ℕ) (es : List Routine) → find_from text k es ≡ Some r → r < k + length es
found_in text k r [] h = cc
found_in text k r (e ∷ es) h = search (rules, found_in text (k + 1) r es)

-- what holds of all holds of one among them
one_of : (test : ℕ → Bool) (cs : List ℕ) (c : ℕ) → list_all test cs ≡ true → list_any (λ x. x == c) cs ≡ true
    → test c ≡ true
one_of test [] c h g = cc
one_of test (x ∷ cs) c h g = search (rules, one_of test cs c, eqb-true)

record IsClosed (e : Routine) : Type 0 where
  some : 0 < length e.items
  letters : list_all is_parameter e.parameters ≡ true
  rows : list_all (is_ready_row e.parameters) e.items ≡ true

-- what it means for a routine to be ready
of_ready : (e : Routine) → is_ready e ≡ true → IsClosed e
of_ready e h = search (rules, and_parts, ltb-true)

module _ (tables : list_all is_ready catalogue ≡ true) (text : List ℕ) (r : ℕ) (found : find text ≡ Some r) where
  closed : IsClosed (entry r)
  closed = search (rules, found_in, of_ready, AllPass-from_list_all)

  pub some_items : 0 < length (entry r).items
  some_items = closed.some

  pub rows_are_ready : list_all (is_ready_row (entry r).parameters) (entry r).items ≡ true
  rows_are_ready = closed.rows

module _ (ts : List Setting) where
  operand_of : (o : Option Operand) → is_some o ≡ true → (x : Operand) × (o ≡ Some x)
  operand_of o some = grind arith

  known : (letters : List ℕ) (c : ℕ) → list_all (λ p. is_some (set_to ts p)) letters ≡ true
      → list_all is_parameter letters ≡ true
      → list_any (λ x. x == c) (17 ∷ 18 ∷ 19 ∷ letters) ≡ true → IsKnown ts c
  known letters c set range g =
      search (rules, one_of is_parameter letters c, one_of (λ x. is_some (set_to ts x)) letters c, operand_of, eqb-true)

  all_known : (letters : List ℕ) (rows : List TableRow)
      → list_all (λ p. is_some (set_to ts p)) letters ≡ true
      → list_all is_parameter letters ≡ true → list_all (is_ready_row letters) rows ≡ true
      → AreKnown ts rows
  all_known letters [] set range h = tt
  all_known letters (row ∷ rows) set range h =
      let p = and_parts _ _ h in
      (known letters row.end set range (and_parts _ _ p.0).1, all_known letters rows set range p.1)

  -- the code letters of a routine whose parameters are set
  pub are_known : list_all is_ready catalogue ≡ true → (text : List ℕ) (r : ℕ) → find text ≡ Some r
      → sets ts (Some r) ≡ true
      → AreKnown ts (entry r).items
  are_known tables text r found s =
      let k = closed tables text r found in
      all_known (entry r).parameters (entry r).items (and_parts _ _ s).1 k.letters k.rows
