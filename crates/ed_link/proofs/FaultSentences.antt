-- The tests of a line and the sentences of the manual say the same, both ways, for the faults S9 to S14, S16 and S17.
use Rattle.ed_link.proofs.Kit.{nat_tests, rules, max, min, Size, [], ap, arith, inl, inr, List, Option, refl, Some}
use Rattle.ed_link.proofs.Kit.{subst, sym, true, ℕ, ◌++◌, ◌<◌, ◌∷◌, ◌≡◌, ◌≤◌, ltb-true, locations, Line, Statement}
use Rattle.ed_link.proofs.Kit.{Enter, LocationCounter, list_any, or_cases, counter_after, counter_from, IsLineAfter}
use Rattle.ed_link.proofs.Kit.{after_statement, first_counter, Ties, any_enter, extent, has_no_routine, has_sandwich}
use Rattle.ed_link.proofs.Kit.{is_enter, is_misplaced, is_outside, overlaps, reach, word_extent, HasEnter, symbols_of}
use Rattle.ed_link.proofs.Kit.{Extent, Bool, false, None, Rows, and_from, and_parts, is_some, not_true, true_not, ◌||◌}
use Rattle.ed_link.specs.FaultTests.{is_rows}
use Rattle.std.proofs.lemmas.Bool.{or_left, or_right}
use Rattle.ed_link.specs.Faults.{IsOutsideSegments, NeedsWithin, NeedsPast, Overlaps, UsesUnknown}
use Rattle.ed_link.specs.Faults.{IsData, IsMisplaced, HasSandwichDigit}
use Rattle.std.proofs.lemmas.Grind.{common_steps}

-- ---- S14 and S17

pub Ties-s14 : (l : Line) → Ties (has_no_routine l.statement) (UsesUnknown l.statement)
Ties-s14 l = search rules

pub Ties-s17 : (l : Line) → Ties (has_sandwich l.statement) (HasSandwichDigit l)
Ties-s17 l = search rules

-- ---- S9

pub Ties-s9 : (before : List Line) (l : Line) → Ties (is_outside l (counter_after before)) (IsOutsideSegments before l)
Ties-s9 before l = search rules

-- ---- S10 to S12

-- a location is in an extent
abbrev IsIn : Extent → ℕ → Type 0
IsIn e p = (e.from ≤ p) × (p < e.after)

meets_says : (a b c d : ℕ) → overlaps (extent a b) (extent c d) ≡ true
    → (p : ℕ) × IsIn (extent a b) p × IsIn (extent c d) p
meets_says a b c d h = let e : max a c < min b d = ltb-true (max a c) (min b d) h in (
  max a c,
  (omega arith, omega (arith, e)),
  (omega arith, omega (arith, e)),
)

meets_tests : (a b c d p : ℕ) → IsIn (extent a b) p → IsIn (extent c d) p → overlaps (extent a b) (extent c d) ≡ true
meets_tests a b c d p h g = grind (arith, nat_tests)

-- S10 at 0 and 44, S11 at 44 and 56
pub s10_s11 : (lines before : List Line) (l : Line) (c d : ℕ)
    → Ties (overlaps (reach (symbols_of lines) l.statement (counter_after before)) (extent c d)) (NeedsWithin
    lines before l c d)
s10_s11 lines before l c d = search (rules, meets_says, meets_tests)

pub Ties-s12 : (z : Size) (lines before : List Line) (l : Line)
    → Ties
    (overlaps (reach (symbols_of lines) l.statement (counter_after before))
    (extent (locations z) (reach (symbols_of lines) l.statement (counter_after before)).after))
    (NeedsPast lines before l (locations z))
Ties-s12 z lines before l = search (rules, meets_says, meets_tests)

-- ---- S13

-- the extents of the words of the lines from a location counter onwards
abbrev pub extents_from : LocationCounter → List Line → List Extent
extents_from s [] = []
extents_from s (l ∷ lines) = word_extent l.statement s ∷ extents_from (after_statement l.statement s) lines

-- one of these lines, from a location counter onwards, has a word at a location of the extent
abbrev Shares : Extent → LocationCounter → List Line → Type 0
Shares shared s lines = (p : ℕ) × IsIn shared p × (earlier : List Line) × (e : Line) × IsLineAfter lines earlier e
    × IsIn (word_extent e.statement (counter_from s earlier)) p

shares_says : (a b : ℕ) (s : LocationCounter) (lines : List Line)
    → list_any (λ o. overlaps (extent a b) o) (extents_from s lines) ≡ true
    → Shares (extent a b) s lines
shares_says a b s [] h = cc
shares_says a b s (l ∷ lines) h = elim (or_cases _ _ h) [
  | inl g ↦
      let m = meets_says a b (word_extent l.statement s).from (word_extent l.statement s).after g in
      (m.0, m.1, [], l, record { after = lines; lines_are = refl }, m.2)
  | inr g ↦
      let r = shares_says a b (after_statement l.statement s) lines g in
      (r.0, r.1, l ∷ r.2, r.3, record { after = r.4.after; lines_are = ap (λ x. l ∷ x) r.4.lines_are }, r.5)
]

shared : (a b : ℕ) (s : LocationCounter) (earlier : List Line) (e : Line) (after : List Line) (p : ℕ)
    → IsIn (extent a b) p
    → IsIn (word_extent e.statement (counter_from s earlier)) p
    → list_any (λ o. overlaps (extent a b) o) (extents_from s (earlier ++ e ∷ after)) ≡ true
shared a b s [] e after p h g = grind (arith, common_steps)
shared a b s (l ∷ earlier) e after p h g =
    or_right _ _ (shared a b (after_statement l.statement s) earlier e after p h g)

pub Ties-s13 : (before : List Line) (l : Line)
    → Ties (list_any (λ o. overlaps (word_extent l.statement (counter_after before)) o)
    (extents_from first_counter before))
    (Overlaps before l)
Ties-s13 before l = record {
  says = shares_says _ _ first_counter before;
  tests = λ h. subst
      (λ x. list_any (λ o. overlaps (word_extent l.statement (counter_after before)) o) (extents_from first_counter x)
      ≡ true)
      (sym h.4.lines_are) (shared _ _ first_counter h.2 h.3 h.4.after h.0 h.1 h.5);
}

-- ---- S16

enter_says : (st : Option Statement) → is_enter st ≡ true → (name : List ℕ) × (st ≡ Some (Enter name))
enter_says st h = search rules

pub any_says : (lines : List Line) → any_enter lines ≡ true → HasEnter lines
any_says [] h = cc
any_says (l ∷ lines) h = elim (or_cases (is_enter l.statement) (any_enter lines) h) [
  | inl g ↦ ([], l, record { after = lines; lines_are = refl }, enter_says l.statement g)
  | inr g ↦
      let r = any_says lines g in
      (l ∷ r.0, r.1, record { after = r.2.after; lines_are = ap (λ x. l ∷ x) r.2.lines_are }, r.3)
]

any_among : (before : List Line) (l : Line) (after : List Line) → is_enter l.statement ≡ true
    → any_enter (before ++ l ∷ after) ≡ true
any_among [] l after h = or_left (is_enter l.statement) (any_enter after) h
any_among (e ∷ before) l after h = or_right _ _ (any_among before l after h)

pub any_tests : (lines : List Line) → HasEnter lines → any_enter lines ≡ true
any_tests lines h = search (rules, any_among)

data_says : (st : Option Statement) → is_rows st ≡ true → IsData st
data_says (Some (Rows codes)) h = tt
data_says st h = cc

data_tests : (st : Option Statement) → IsData st → is_rows st ≡ true
data_tests (Some (Rows codes)) h = refl
data_tests st h = absurd h

form_says : (label : Option (List ℕ)) (st : Option Statement) → (is_some label || is_some st) ≡ true
    → (label ≡ None) × (st ≡ None) → ⊥
form_says label st h g = search rules

form_tests : (label : Option (List ℕ)) (st : Option Statement) → ((label ≡ None) × (st ≡ None) → ⊥)
    → (is_some label || is_some st) ≡ true
form_tests (Some n) st h = refl
form_tests None (Some st) h = refl
form_tests None None h = absurd (h (refl, refl))

misplaced_says : (lines before : List Line) (l : Line) (entered : Bool) → any_enter before ≡ entered
    → is_misplaced entered (any_enter lines) l ≡ true → IsMisplaced lines before l
misplaced_says lines before l true e h =
    let p = and_parts _ _ h in
    inl (any_says before e, form_says l.label l.statement p.0, λ d. not_true _ p.1 (data_tests l.statement d))
misplaced_says lines before l false e h =
    let p = and_parts _ _ h in
    inr (λ g. let k = any_tests before g in cc, data_says l.statement p.1, any_says lines p.0)

misplaced_tests : (lines before : List Line) (l : Line) (entered : Bool) → any_enter before ≡ entered
    → IsMisplaced lines before l → is_misplaced entered (any_enter lines) l ≡ true
misplaced_tests lines before l true e (inl h) =
    and_from _ _ (form_tests l.label l.statement h.1) (true_not _ (λ d. h.2 (data_says l.statement d)))
misplaced_tests lines before l false e (inl h) = let g : any_enter before ≡ true = any_tests before h.0 in cc
misplaced_tests lines before l true e (inr h) = absurd (h.0 (any_says before e))
misplaced_tests lines before l false e (inr h) = and_from _ _ (any_tests lines h.2) (data_tests l.statement h.1)

pub Ties-s16 : (lines before : List Line) (l : Line)
    → Ties (is_misplaced (any_enter before) (any_enter lines) l) (IsMisplaced lines before l)
Ties-s16 lines before l = record {
  says = misplaced_says lines before l _ refl;
  tests = misplaced_tests lines before l _ refl;
}
