-- The names that the source of `demo` defines are different, and each operand has a value.
use Rattle.ed_sources.proofs.Kit.{decimal, not-true, list_all-append, Line, codes, None, not, list_all, and_parts}
use Rattle.ed_sources.proofs.Kit.{value, Text, LocationCounter, Definition, append-nil, first_counter, [], ap, arith}
use Rattle.ed_sources.proofs.Kit.{Bool, false, List, nat_lt, Option, refl, rules, Some, subst, suc, sym, true, zero, ℕ}
use Rattle.ed_sources.proofs.Kit.{◌++◌, ◌+◌, ◌<◌, ◌∙◌, ◌∷◌, ◌≡◌, ◌≤◌, le-ltb, digits, ◌≢◌, number_after}
use Rattle.std.specs.Str.{bytes_eq}
use Rattle.std.proofs.lemmas.Slice.Eq.{bytes_eq-Decides}
use Rattle.ed_symbols.specs.NameTests.{naming_fault_from}
use Rattle.ed_symbols.specs.Names.{definition_of}
use Rattle.ed_sources.proofs.Decimals.{list_all-numbers, decimal_is, value_is, written}
use Rattle.ed_sources.proofs.SaidDemo.{adding_lines, enter_line, name, segment_forms, segment_line}

-- ---- definitions without a name

abbrev pub has_none : Text → List Definition → Bool
has_none n symbols = list_all (λ h. not (bytes_eq h.name n)) symbols

no_home : (segment : Option ℕ) (n : Text) (symbols : List Definition) → has_none n symbols ≡ true
    → definition_of segment n symbols ≡ None
no_home segment n [] e = refl
no_home segment n (h ∷ symbols) e =
    let p = and_parts (not (bytes_eq h.name n)) (has_none n symbols) e in
    let other : bytes_eq h.name n ≡ false = not-true (bytes_eq h.name n) p.0 in
    rw other (no_home segment n symbols p.1)

-- ---- the names of segments

abbrev value_behind_s : Text → ℕ
value_behind_s [] = 0
value_behind_s (b ∷ bs) = value bs

names_differ : (i j : ℕ) → i < 65536 → j < 65536 → i ≢ j → bytes_eq (name i) (name j) ≡ false
names_differ i j small other differ = by_test (bytes_eq (name i) (name j)) refl
  where
    value_of : (k : ℕ) → k < 65536 → value (decimal k) ≡ k
    value_of k low = sym (ap value (decimal_is k low)) ∙ value_is k low

    by_test : (t : Bool) → bytes_eq (name i) (name j) ≡ t → bytes_eq (name i) (name j) ≡ false
    by_test false e = e
    by_test true e =
        let same : name i ≡ name j = (bytes_eq-Decides (name i) (name j)).0 e in
        absurd (differ (sym (value_of i small) ∙ ap value_behind_s same ∙ value_of j other))

-- what the program's lines and the first segment define
abbrev definition : Text → ℕ → Definition
definition name place = record { name = name; place = place; segment = Some 1 }

abbrev pub first_homes : List Definition
first_homes =
    definition (codes "main") 56
    ∷ definition (codes "loop") 56
    ∷ definition (codes "add") 58
    ∷ definition (codes "here") 66
    ∷ definition (codes "stop") 69
    ∷ definition (codes "junk") 70
    ∷ definition (codes "total") 71
    ∷ record { name = codes "p"; place = 72; segment = None }
    ∷ record { name = codes "s1"; place = 123; segment = Some 3 }
    ∷ []

-- none of these definitions has the name of a segment with this number or a greater one
abbrev pub IsFree : ℕ → List Definition → Type 0
IsFree k symbols = (j : ℕ) → k ≤ j → j ≤ 112 → has_none (name j) symbols ≡ true

pub first_free : IsFree 2 first_homes
first_free j low high =
    subst (λ (bytes : Text). has_none (115 ∷ bytes) first_homes ≡ true) (decimal_is j (omega arith))
    (list_all-numbers (λ j. has_none (115 ∷ written (digits j)) first_homes) 2 111 j refl low (omega arith))

more_free : (k : ℕ) (symbols : List Definition) (h : Definition) → h.name ≡ name k → k ≤ 112 → IsFree k symbols
    → IsFree (k + 1) (symbols ++ h ∷ [])
more_free k symbols h is few free = search (rules, bytes_eq, names_differ, list_all-append)

-- ---- no line has one of the faults S6 to S8

-- no line from a location counter onwards has one of them
pub record AreNamed (symbols earlier : List Definition) (s : LocationCounter) (lines : List Line) : Type 0 where
  pub none : naming_fault_from symbols earlier s lines ≡ None

module _ (rest_homes : List Definition) where
  abbrev symbols : List Definition
  symbols = first_homes ++ rest_homes

  pub segments_named : (n k l x : ℕ) {earlier : List Definition} {s : LocationCounter} {rest : List Line} → k + n ≤ 113
      → IsFree k earlier → ((e : List Definition) (t : LocationCounter) → AreNamed symbols e t rest)
      → AreNamed symbols earlier s (segment_forms n k l x ++ rest)
  segments_named zero k l x {earlier} {s} few free behind = behind earlier s
  segments_named (suc n) k l x {earlier} {s} {rest} few free behind =
      let own : Definition = record { name = name k; place = s.place; segment = Some (s.segments + 1) } in
      let none = no_home (Some (s.segments + 1)) (name k) earlier (free k (omega arith) (omega arith)) in
      record {
        none = simp (append-nil, none) (segments_named n (k + 1) (l + 9) (number_after 8 x) (omega arith)
            (more_free k earlier own refl (omega arith) free) behind).none;
      }

  pub enter_named : {earlier : List Definition} {s : LocationCounter} (l : ℕ)
      → AreNamed symbols earlier s (enter_line l ∷ [])
  enter_named l = record { none = refl }

  pub program_named : {rest : List Line} (words : ℕ) → words ≤ 900
      → AreNamed symbols first_homes (record { place = 123; base = 123; segments = 3; inside = true }) rest
      → naming_fault_from symbols [] first_counter (adding_lines words ++ segment_line 19 (codes "s1") ∷ rest) ≡ None
  program_named words few behind =
      let positive : nat_lt (123 + words) 0 ≡ false = le-ltb (123 + words) 0 (omega arith) in
      let near : nat_lt 1023 (123 + words) ≡ false = le-ltb 1023 (123 + words) (omega arith) in
      rw (positive, near) behind.none
