-- The same for the fault S6, of names that are defined again.
use Rattle.ed_symbols.proofs.Kit.{is_some, list_any, or_cases, or_left, or_right, Any-from_list_any, list_any-from_Any}
use Rattle.ed_symbols.proofs.Kit.{Line, [], ap, arith, inl, inr, List, Option}
use Rattle.ed_symbols.proofs.Kit.{refl, Some, true, ℕ, ◌++◌, ◌∷◌, ◌≡◌, ◌⊎◌, counter_after, rules}
use Rattle.ed_symbols.proofs.Kit.{counter_from, IsLineAfter, defines_again, definition_of, line_definitions}
use Rattle.ed_symbols.proofs.Kit.{symbols_from, after_statement, first_counter, LocationCounter, Definition}
use Rattle.ed_lines.proofs.Kit.{bytes_eq-Decides}
use Rattle.std.specs.List.{Contains}
use Rattle.std.proofs.lemmas.Bool.{eqb-true, eq-eqb}
use Rattle.std.proofs.lemmas.List.Elements.{Contains-append_cases, Contains-append_left, Contains-append_right}
use Rattle.ed_symbols.specs.NameFaults.{AreAlike, DefinesAgain}
use Rattle.ed_symbols.specs.NameTests.{is_again}
use Rattle.ed_symbols.specs.Names.{is_definition_of, label_definition, as_list, statement_definition}
use Rattle.ed_symbols.proofs.Sentences.{Ties}

listed_says : (o : Option Definition) (h : Definition) → Contains (as_list o) h → o ≡ Some h
listed_says o h c = search rules

listed_has : (o : Option Definition) (h : Definition) → o ≡ Some h → Contains (as_list o) h
listed_has o h e = search rules

-- a definition among those of some lines, from a location counter onwards, is one of a line of them
abbrev IsOfLine : LocationCounter → List Line → Definition → Type 0
IsOfLine s lines h = (earlier : List Line) × (e : Line) × IsLineAfter lines earlier e
    × Contains (line_definitions e (counter_from s earlier)) h

of_line_says : (s : LocationCounter) (lines : List Line) (h : Definition) → Contains (symbols_from s lines) h
    → IsOfLine s lines h
of_line_says s [] h c = absurd (omega (arith, c.1))
of_line_says s (l ∷ lines) h c =
    elim (Contains-append_cases (line_definitions l s) (symbols_from (after_statement l.statement s) lines) h c) [
      | inl g ↦ ([], l, record { after = lines; lines_are = refl }, g)
      | inr g ↦
          let r = (of_line_says (after_statement l.statement s) lines h g) in
          (l ∷ r.0, r.1, record { after = r.2.after; lines_are = ap (λ x. l ∷ x) r.2.lines_are }, r.3)
    ]

of_line_among : (s : LocationCounter) (earlier : List Line) (e : Line) (after : List Line) (h : Definition)
    → Contains (line_definitions e (counter_from s earlier)) h → Contains (symbols_from s (earlier ++ e ∷ after)) h
of_line_among s [] e after h c = search (rules, Contains-append_left)
of_line_among s (l ∷ earlier) e after h c =
    search (rules, Contains-append_right, of_line_among (after_statement l.statement s) earlier e after h c)

alike_says : (h other : Definition) → is_definition_of h.segment h.name other ≡ true → AreAlike h other
alike_says h other t = search (rules, bytes_eq-Decides, eqb-true)

alike_tests : (h other : Definition) → AreAlike h other → is_definition_of h.segment h.name other ≡ true
alike_tests h other a = search (rules, bytes_eq-Decides, eq-eqb)

found_any : (g : Option ℕ) (name : List ℕ) (symbols : List Definition)
    → is_some (definition_of g name symbols) ≡ list_any (is_definition_of g name) symbols
found_any g name [] = refl
found_any g name (h ∷ symbols) = search (rules, found_any g name symbols)

-- the definition defines again a name of these
abbrev IsAgain : List Definition → Option Definition → Type 0
IsAgain earlier o = (h : Definition) × (o ≡ Some h) × (other : Definition) × Contains earlier other × AreAlike h other

again_says : (earlier : List Definition) (o : Option Definition) → is_again earlier o ≡ true → IsAgain earlier o
again_says earlier o t = search (rules, Any-from_list_any, found_any, alike_says)

again_tests : (earlier : List Definition) (o : Option Definition) (h other : Definition) → o ≡ Some h
    → Contains earlier other → AreAlike h other → is_again earlier o ≡ true
again_tests earlier o h other e c alike = search (rules, found_any, list_any-from_Any, alike_tests)

module _ (before : List Line) (l : Line) where
  abbrev here : LocationCounter
  here = counter_after before

  abbrev labels : Option Definition
  labels = label_definition l.label l.statement here

  abbrev names : Option Definition
  names = statement_definition l.statement here

  abbrev earlier_homes : List Definition
  earlier_homes = symbols_from first_counter before

  -- the line defines a name that an earlier line defines
  of_earlier : (h other : Definition) → Contains (line_definitions l here) h → Contains earlier_homes other
      → AreAlike h other → DefinesAgain before l
  of_earlier h other c d alike =
      let r = of_line_says first_counter before other d in inl (h, c, r.0, r.1, r.2, other, r.3, alike)

  either : (is_again earlier_homes labels ≡ true)
      ⊎ (is_again (earlier_homes ++ as_list labels) names ≡ true) → DefinesAgain before l
  either (inl t) =
      let a = again_says earlier_homes labels t in
      of_earlier a.0 a.2 (Contains-append_left (as_list labels) _ a.0 (listed_has labels a.0 a.1)) a.3 a.4
  either (inr t) =
      let a = again_says (earlier_homes ++ as_list labels) names t in
      elim (Contains-append_cases earlier_homes (as_list labels) a.2 a.3) [
        | inl c ↦
            of_earlier a.0 a.2 (Contains-append_right (as_list labels) _ a.0 (listed_has names a.0 a.1)) c a.4
        | inr c ↦ inr (a.0, a.1, a.2, listed_says labels a.2 c, a.4)
      ]

  again_of : DefinesAgain before l → defines_again earlier_homes l here ≡ true
  again_of (inl (h, c, e, x, stands, other, d, alike)) =
      let among : Contains earlier_homes other =
      rw stands.lines_are (of_line_among first_counter e x stands.after other d) in
      elim (Contains-append_cases (as_list labels) (as_list names) h c) [
        | inl g ↦ or_left _ _ (again_tests earlier_homes labels h other (listed_says labels h g) among alike)
        | inr g ↦ or_right _ _ (again_tests _ names h other (listed_says names h g)
            (Contains-append_left earlier_homes (as_list labels) other among) alike)
      ]
  again_of (inr (h, e, other, d, alike)) = search (rules, or_right, again_tests, Contains-append_right, listed_has)

  pub Ties-s6 : Ties (defines_again (symbols_from first_counter before) l (counter_after before))
      (DefinesAgain before l)
  Ties-s6 = search (rules, either, or_cases, again_of)
