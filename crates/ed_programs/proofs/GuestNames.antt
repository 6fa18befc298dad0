-- A source that enters the checking routine is entered at the routine's base.
use Rattle.ed_programs.proofs.Kit.{arith, nat_tests, Size, Line, Statement, Enter, bytes_eq-Decides}
use Rattle.ed_programs.proofs.Kit.{Definition, counter_after, place_on, [], ap, append_assoc, false, inl, inr, List}
use Rattle.ed_programs.proofs.Kit.{None, Option, refl, Some, subst, sym, true, unwrap_or, ℕ, ◌++◌, ◌∙◌, ◌∷◌, ◌≡◌}
use Rattle.ed_programs.proofs.Kit.{first_counter, entry_of, symbols_of, checker_base, EntersChecker}
use Rattle.ed_link.proofs.Kit.{is_some, counter_from, after_statement, HasEnter, HasNoFault, on_line, entered_place}
use Rattle.ed_link.proofs.Kit.{entry_from}
use Rattle.ed_symbols.proofs.Kit.{defines_again, definition_of, symbols_from}
use Rattle.std.proofs.Common.{option_map, rules}
use Rattle.std.proofs.lemmas.Bool.{false_from_ne_true}
use Rattle.ed_symbols.specs.NameTests.{is_again}
use Rattle.ed_symbols.specs.Names.{definition_place, is_local, label_definition, as_list, statement_definition}
use Rattle.ed_symbols.specs.Names.{same_segment}
use Rattle.ed_symbols.specs.declared.location_counter.LocationCounter.{LocationCounter}
use Rattle.ed_symbols.proofs.AgainSentences.{Ties-s6}
use Rattle.ed_link.specs.Faults.{IsData}
use Rattle.ed_lines.specs.declared.fault.SourceCause.TheVariants as causes

-- ---- the line that enters

-- a line that is not an `enter` leaves the entry to the lines after it
other_line : (symbols : List Definition) (st : Option Statement) (later : ℕ)
    → ((name : List ℕ) → st ≡ Some (Enter name) → ⊥) → entered_place symbols st later ≡ later
other_line symbols (Some (Enter n)) later none = absurd (none n refl)
other_line symbols st later none = refl

-- and so do lines without one
first_enter : (symbols : List Definition) (ahead rest : List Line) → (HasEnter ahead → ⊥)
    → entry_from symbols (ahead ++ rest) ≡ entry_from symbols rest
first_enter symbols [] rest none = refl
first_enter symbols (l ∷ ahead) rest none =
    other_line symbols l.statement (entry_from symbols (ahead ++ rest))
    (λ name e. none ([], l, record { after = ahead; lines_are = refl }, (name, e)))
    ∙ first_enter symbols ahead rest (λ h. none (
      l ∷ h.0,
      h.1,
      record { after = h.2.after; lines_are = ap (λ (x : List Line). l ∷ x) h.2.lines_are },
      h.3,
    ))

-- ---- the name

-- what lines define, and what more lines do
homes_append : (s : LocationCounter) (xs ys : List Line)
    → symbols_from s (xs ++ ys) ≡ symbols_from s xs ++ symbols_from (counter_from s xs) ys
homes_append s [] ys = refl
homes_append s (x ∷ xs) ys =
    let rest = homes_append (after_statement x.statement s) xs ys in simp (rest, append_assoc {A = Definition})

-- a name that isn't defined by the first ones
later_home : (g : Option ℕ) (name : List ℕ) (hs rest : List Definition) → is_some (definition_of g name hs) ≡ false
    → definition_of g name (hs ++ rest) ≡ definition_of g name rest
later_home g name [] rest none = refl
later_home g name (h ∷ hs) rest none = let more = later_home g name hs rest in grind (arith, nat_tests)

-- a line outside all segments sees no local name
no_local : (a : Option ℕ) → same_segment a None ≡ false
no_local None = refl
no_local (Some k) = refl

local_unseen : (name : List ℕ) → is_local name ≡ true → (hs : List Definition) → definition_of None name hs ≡ None
local_unseen name e [] = refl
local_unseen name e (h ∷ hs) = search (rules, no_local, local_unseen name e hs)

module _ (z : Size) (lines : List Line) (faultless : HasNoFault z lines) (c : EntersChecker lines) where
  -- no line before the one that enters is an `enter`
  none_ahead : HasEnter c.ahead → ⊥
  none_ahead h =
      faultless _ causes.Enter
      (on_line c.follows (inl (
        h,
        λ empty. clash (sym empty.1 ∙ c.enters),
        λ rows. subst IsData c.enters rows,
      )))
    where
      clash : ◌≡◌ {A = Option Statement} None (Some (Enter c.name)) → ⊥
      clash e = absurd (cc)

  entered : entry_of lines ≡ unwrap_or (place_on (symbols_of lines) None c.name) 0
  entered = search (rules, first_enter, none_ahead)

  -- the name that is entered is known, so it is not local
  is_global : is_local c.name ≡ false
  is_global = false_from_ne_true (is_local c.name) (λ e.
      faultless _ causes.LabelUnknown
      (on_line c.follows (inr (
        c.name,
        c.enters,
        ap (option_map definition_place)
            (local_unseen c.name e (symbols_of lines)),
      ))))

  abbrev counter : LocationCounter
  counter = counter_after c.before

  abbrev home : Definition
  home = record { name = c.name; place = checker_base c.before; segment = None }

  abbrev labels : List Definition
  labels = as_list (label_definition c.using.label c.using.statement counter)

  abbrev earlier : List Definition
  earlier = symbols_from first_counter c.before

  names : statement_definition c.using.statement counter ≡ Some home
  names = ap (λ st. statement_definition st counter) c.uses

  -- no line up to the `use` defines its name
  new : is_some (definition_of None c.name (earlier ++ labels)) ≡ false
  new =
      let once : (defines_again earlier c.using counter ≡ true) → ⊥ =
      λ t. faultless _ causes.LabelTwice (on_line c.stands ((Ties-s6 c.before c.using).says t)) in
      let none = false_from_ne_true (defines_again earlier c.using counter) once in
      let again : is_again (earlier ++ labels) (statement_definition c.using.statement counter) ≡ false =
      grind (arith, nat_tests) in
      sym (ap (is_again (earlier ++ labels)) names) ∙ again

  abbrev later : List Definition
  later = symbols_from (after_statement c.using.statement counter) c.stands.after

  all_homes : symbols_of lines ≡ (earlier ++ labels) ++ home ∷ later
  all_homes = search (rules, homes_append, append_assoc)

  itself : definition_of None c.name (home ∷ later) ≡ Some home
  itself = search (rules, bytes_eq-Decides, is_global)

  pub place_on-checker : place_on (symbols_of lines) None c.name ≡ Some (checker_base c.before)
  place_on-checker =
      ap (option_map definition_place)
      (ap (definition_of None c.name) all_homes
      ∙ later_home None c.name (earlier ++ labels) (home ∷ later) new
      ∙ itself)

  pub entry_is : entry_of lines ≡ checker_base c.before
  entry_is = entered ∙ ap (λ (o : Option ℕ). unwrap_or o 0) place_on-checker
