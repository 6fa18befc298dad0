-- The source of `demo` has no fault of meaning, as long as its words are within the store.
use Rattle.ed_sources.proofs.Kit.{Size, Line, codes, None, Text, LocationCounter, Definition, counter, first_counter}
use Rattle.ed_sources.proofs.Kit.{fault, symbols_of, [], ap, arith, false, List, nat_lt, refl, subst, suc, sym, true}
use Rattle.ed_sources.proofs.Kit.{zero, ℕ, ◌*◌, ◌++◌, ◌+◌, ◌∷◌, ◌≡◌, ◌≤◌, le-ltb, locations, next, number_after}
use Rattle.ed_link.proofs.Kit.{max, min, resolution, any_enter, cause_of, extent, fault_from}
use Rattle.ed_words.specs.declared.size.Size.TheVariants.{Small, Full}
use Rattle.ed_symbols.specs.Names.{symbols_from}
use Rattle.ed_link.proofs.Extents.{ExtentList, list_any-apart, are_below, fits_store, none_later, one_by_one, one_more}
use Rattle.ed_link.proofs.Extents.{past}
use Rattle.ed_sources.proofs.Decimals.{decimal_is}
use Rattle.ed_sources.proofs.DemoNames.{enter_named, first_free, first_homes, program_named, segments_named, AreNamed}
use Rattle.ed_sources.proofs.Said.{said}
use Rattle.ed_sources.proofs.SaidDemo.{adding_lines, demo_lines, enter_line, name, segment_forms, segment_line}
use Rattle.ed_sources.proofs.SaidDemo.{word_forms}
use Rattle.ed_lines.specs.declared.program.Statement.TheVariants as statements
use Rattle.std.proofs.Common.{rules}

-- ---- locations

-- the extents of the program and of the line of the first segment
abbrev first_extents : ExtentList
first_extents = extent 56 56 ∷ one_by_one 16 56 ++ extent 72 123 ∷ extent 123 123 ∷ []

-- ---- no line has one of the faults S9 to S17

-- the lines after those of the program and of the first segment's line, if n segments more follow
abbrev pub lines_behind : ℕ → ℕ → ℕ → List Line
lines_behind n x l = word_forms 8 20 x ++ segment_forms n 2 28 (number_after 8 x) ++ enter_line l ∷ []

-- no line from a location counter onwards has one, if the lines before them have these extents
record AreSound (z : Size) (symbols : List Definition) (extents : ExtentList) (s : LocationCounter) (lines : List Line)
    : Type 0 where
  none : fault_from z symbols true (past extents) s lines ≡ None

module _ (z : Size) (rest_homes : List Definition) where
  abbrev symbols : List Definition
  symbols = first_homes ++ rest_homes

  word_sound : (l w p b g : ℕ) (extents : ExtentList) → (56 ≤ p) × (p + 1 ≤ locations z) → are_below p extents ≡ true
      → cause_of z symbols true (past extents) (said l None (statements.Number w)) (counter p b g) ≡ None
  word_sound l w p b g extents inside below =
      let s = fits_store (locations z) p (p + 1) inside.0 inside.1 in
      let loader = s.loader in let parameters = s.parameters in let store = s.store in
      let others = list_any-apart p p (p + 1) extents (omega arith) below in
      rw (loader, parameters, store, others) refl

  segment_sound : (l p b g : ℕ) (n : Text) (extents : ExtentList) → are_below p extents ≡ true
      → cause_of z symbols true (past extents) (segment_line l n) (counter p b g) ≡ None
  segment_sound l p b g n extents below =
      let loader : nat_lt (max p 0) (min p 44) ≡ false = le-ltb (max p 0) (min p 44) (omega arith) in
      let parameters : nat_lt (max p 44) (min p 56) ≡ false = le-ltb (max p 44) (min p 56) (omega arith) in
      let store : nat_lt (max p (locations z)) (min p p) ≡ false =
      le-ltb (max p (locations z)) (min p p) (omega arith) in
      let others = list_any-apart p p p extents (omega arith) below in
      rw (loader, parameters, store, others) refl

  words_sound : (n l x : ℕ) {p b g : ℕ} {extents : ExtentList} {rest : List Line} → 56 ≤ p → p + n ≤ locations z
      → are_below p extents ≡ true
      → ((more : ExtentList) → are_below (p + n) more ≡ true → AreSound z symbols more (counter (p + n) b g) rest)
      → AreSound z symbols extents (counter p b g) (word_forms n l x ++ rest)
  words_sound zero l x {p} {b} {g} {extents} {rest} low fits below behind =
      let e : p + 0 ≡ p = omega arith in
      search rules
  words_sound (suc n) l x {p} {b} {g} {extents} {rest} low fits below behind =
      let e : p + suc n ≡ p + 1 + n = omega arith in
      let more : AreSound z symbols (extents ++ extent p (p + 1)
      ∷ []) (counter (p + 1) b g) (word_forms n (l + 1) (next x) ++ rest) =
      words_sound n (l + 1) (next x) (omega arith) (omega arith) (one_more p p (p + 1) extents (omega arith) below)
      (λ more under. subst (λ q. AreSound z symbols more (counter q b g) rest) e
      (behind more (subst (λ q. are_below q more ≡ true) (sym e) under))) in
      search (rules, none_later, word_sound)

  segments_sound : (n k l x : ℕ) {p b g : ℕ} {extents : ExtentList} {rest : List Line} → 56 ≤ p
      → p + 8 * n ≤ locations z → are_below p extents ≡ true
      → ((more : ExtentList) (q c h : ℕ) → are_below q more ≡ true → AreSound z symbols more (counter q c h) rest)
      → AreSound z symbols extents (counter p b g) (segment_forms n k l x ++ rest)
  segments_sound zero k l x {p} {b} {g} {extents} low fits below behind = behind extents p b g below
  segments_sound (suc n) k l x {p} {b} {g} {extents} {rest} low fits below behind =
      let more : AreSound z symbols (extents ++ extent p p ∷ []) (counter p p (g + 1))
      (word_forms 8 (l + 1) x ++ segment_forms n (k + 1) (l + 9) (number_after 8 x) ++ rest) =
      words_sound 8 (l + 1) x low (omega arith) (one_more p p p extents (omega arith) below)
      (λ more under. segments_sound n (k + 1) (l + 9) (number_after 8 x) (omega arith) (omega arith) under behind) in
      record { none = none_later l _ _ (segment_sound l p b g (name k) extents below) more.none }

  enter_sound : (l q b g : ℕ) (extents : ExtentList) → are_below q extents ≡ true
      → AreSound z symbols extents (counter q b g) (enter_line l ∷ [])
  enter_sound l q b g extents below =
      let store : nat_lt (max 56 (locations z)) (min 57 57) ≡ false = within z in
      let others = list_any-apart q q q extents (omega arith) below in
      record { none = rw (store, others) refl }
    where
      within : (z : Size) → nat_lt (max 56 (locations z)) (min 57 57) ≡ false
      within Small = refl
      within Full = refl

  behind_sound : (n x l : ℕ) → 131 + 8 * n ≤ locations z
      → AreSound z symbols first_extents (counter 123 123 3) (lines_behind n x l)
  behind_sound n x l fits = search (rules, words_sound, segments_sound, enter_sound)

program_sound : (z : Size) (rest_homes : List Definition) (words : ℕ) (rest : List Line)
    → fault_from z (first_homes ++ rest_homes) true (past first_extents) (counter 123 123 3) rest ≡ None
    → fault_from z (first_homes ++ rest_homes) true (past []) first_counter
    (adding_lines words ++ segment_line 19 (codes "s1") ∷ rest) ≡ None
program_sound Small rest_homes words rest behind_it = behind_it
program_sound Full rest_homes words rest behind_it = behind_it

-- ---- the whole source

segments_enter : (n k l x : ℕ) (rest : List Line) → any_enter (segment_forms n k l x ++ rest) ≡ any_enter rest
segments_enter zero k l x rest = refl
segments_enter (suc n) k l x rest = segments_enter n (k + 1) (l + 9) (number_after 8 x) rest

abbrev pub lines_with : Text → ℕ → ℕ → ℕ → ℕ → List Line
lines_with first words n x l = adding_lines words ++ segment_line 19 first ∷ lines_behind n x l

module _ (z : Size) (words n x l : ℕ) (few : n ≤ 111) (near : words ≤ 900) (fits : 131 + 8 * n ≤ locations z) where
  abbrev lines : List Line
  lines = lines_with (codes "s1") words n x l

  abbrev rest_homes : List Definition
  rest_homes = symbols_from (counter 123 123 3) (lines_behind n x l)

  named : (resolution lines).fault ≡ None
  named =
      let behind : AreNamed (symbols_of lines) first_homes (counter 131 123 3)
      (segment_forms n 2 28 (number_after 8 x) ++ enter_line l ∷ []) =
      segments_named rest_homes n 2 28 (number_after 8 x) (omega (arith, few)) first_free
      (λ e s. enter_named rest_homes l) in
      program_named rest_homes {rest = lines_behind n x l} words near (record { none = behind.none })

  sound : fault_from z (symbols_of lines) true (past []) first_counter lines ≡ None
  sound = program_sound z rest_homes words (lines_behind n x l)
      (behind_sound z rest_homes n x l fits).none

  entered : any_enter lines ≡ true
  entered = segments_enter n 2 28 (number_after 8 x) (enter_line l ∷ [])

  pub lines_faultless : fault z lines ≡ None
  lines_faultless = search (rules, named, entered, sound)

-- what holds of every source whose first segment has its name spelled out holds of each `demo N`
pub of_each : (P : ℕ → List Line → Type 0)
    → ((n : ℕ) → n ≤ 111 → P (suc n) (lines_with (codes "s1") (8 * suc n) n (suc n) (19 + 9 * suc n)))
    → (n : ℕ) → 1 ≤ n → n ≤ 112 → P n (demo_lines n)
of_each P holds zero some few = absurd (omega arith)
of_each P holds (suc n) some few =
    let one : codes "s1" ≡ name 1 = ap (λ (t : Text). 115 ∷ t) (decimal_is 1 (omega arith)) in
    subst (λ (t : Text). P (suc n) (lines_with t (8 * suc n) n (suc n) (19 + 9 * suc n))) one (holds n (omega arith))

pub demo_faultless : (z : Size) (n : ℕ) → 1 ≤ n → n ≤ 112 → 123 + 8 * n ≤ locations z → fault z (demo_lines n) ≡ None
demo_faultless z = of_each (λ n ls. 123 + 8 * n ≤ locations z → fault z ls ≡ None)
    (λ n few fits. lines_faultless z (8 * suc n) n (suc n) (19 + 9 * suc n) few (omega arith) (omega arith))
