-- What the fold does at the items of a `use` line: preset parameters, and a routine's items.
use Rattle.ed_link.proofs.Kit.{reverse, cases_eq, ne_eqb, get_or-set_same, reverse-append, same_Some, T_F, Size}
use Rattle.ed_link.proofs.Kit.{locations_least, word_with, AreSpellable, Item, Letter, [], ap, append_assoc, arith}
use Rattle.ed_link.proofs.Kit.{Bool, false, get_or, inl, inr, length, List, nat_le, nat_lt, None, Option, refl, Some}
use Rattle.ed_link.proofs.Kit.{suc, sym, true, ℕ, ◌&&◌, ◌*◌, ◌++◌, ◌+◌, ◌-◌, ◌<◌, ◌∙◌, ◌∷◌, ◌≡◌, ◌≤◌, ◌⊎◌, flat_map}
use Rattle.ed_link.proofs.Kit.{list_all, and_parts, leb-true, ltb-true, get_or-set_other, locations, NotationState}
use Rattle.ed_link.proofs.Kit.{row_kind, is_spellable, Does-aiming, Does-placing, Operand, Setting, map, zero}
use Rattle.ed_link.proofs.Kit.{nat_tests, routine_word, table_item, TableRow, Definition, operand_number}
use Rattle.ed_link.proofs.Kit.{parameter_letters, parameters, placed_words, preset, set_to, item_with, preset_items}
use Rattle.ed_link.proofs.Kit.{rules}
use Rattle.std.proofs.Common.{◌≢◌}
use Rattle.ed_notation.specs.Fold.{over, value_of, item_word as word_in_fold}
use Rattle.ed_notation.proofs.Contents.{length-over}
use Rattle.ed_library.specs.Images.{parameter_store}
use Rattle.ed_library.proofs.Letters.{value_of_parameter}
use Rattle.ed_link.specs.Linked.{parameter}
use Rattle.ed_link.proofs.Orders.{AreSpellable-split, placed_more}
use Rattle.ed_link.proofs.Passes.{Passes, stays, goes, Passes-join, at}

-- a fact of `count` numbers, from n onwards
abbrev Each : (ℕ → Type 0) → ℕ → ℕ → Type 0
Each P zero n = Unit {0}
Each P (suc count) n = P n × Each P count (n + 1)

-- a fact of each letter of a parameter
six : (P : ℕ → Type 0) → Each P 6 21 → (c : ℕ) → 21 ≤ c → c ≤ 26 → P c
six P p c l h = grind arith

-- the number of an item that can be spelled
spelled_number : (i : Item) → is_spellable i ≡ true → i.number ≤ 32767
spelled_number i h = grind (arith, nat_tests)

-- what is placed later comes first in the list
pub reverse-append_both : (ps qs m : List (ℕ × ℕ)) → reverse qs ++ (reverse ps ++ m) ≡ reverse (ps ++ qs) ++ m
reverse-append_both ps qs m = rw (reverse-append, append_assoc) refl

-- ---- preset parameters

module _ (words : List ℕ) (symbols : List Definition) (ts : List Setting) where
  -- the word of a letter that is set is in its location
  abbrev pub IsHeld : List (ℕ × ℕ) → ℕ → Type 0
  IsHeld placed c = (o : Operand) → set_to ts c ≡ Some o
      → get_or (over placed words) (24 + c) 0 ≡ 2 * operand_number symbols None o

  abbrev pub AreHeld : List (ℕ × ℕ) → List ℕ → Type 0
  AreHeld placed [] = Unit {0}
  AreHeld placed (c ∷ cs) = IsHeld placed c × AreHeld placed cs

  -- so does that of every letter of a parameter
  pub record HoldsAll (placed : List (ℕ × ℕ)) : Type 0 where
    pub held : (c : ℕ) → 21 ≤ c → c ≤ 26 → IsHeld placed c

  pub HoldsAll-held : (placed : List (ℕ × ℕ)) → AreHeld placed parameter_letters → HoldsAll placed
  HoldsAll-held placed h = record {
    held = six (λ c. IsHeld placed c) h;
  }

  put_other : {p : ℕ} (placed : List (ℕ × ℕ)) (w d : ℕ) → 24 + d ≢ p → IsHeld placed d → IsHeld ((p, w) ∷ placed) d
  put_other {p} placed w d n h o e = get_or-set_other (over placed words) p (24 + d) w 0 n ∙ h o e

  still : (placed : List (ℕ × ℕ)) (p w : ℕ) → 56 ≤ p → HoldsAll placed → HoldsAll ((p, w) ∷ placed)
  still placed p w high h = search (rules, get_or-set_other)

  -- parameters are set
  pub record Sets (z : Size) (notation : NotationState) (is : List Item) (ps : List (ℕ × ℕ)) : Type 0 where
    pub next : NotationState
    pub passes : Passes z words notation is next
    pub theta : next.theta ≡ notation.theta
    pub placed : next.placed ≡ reverse ps ++ notation.placed
    pub keeps : (d : ℕ) → IsHeld notation.placed d → IsHeld next.placed d

-- whether each code is from 20 to 31
abbrev pub are_letters : List ℕ → Bool
are_letters cs = list_all (λ c. nat_le 20 c && nat_lt c 32) cs

module _ {z : Size} {words : List ℕ} (whole : length words ≡ 1024) (symbols : List Definition) (ts : List Setting) where
  one : (c : ℕ) (found : Option Operand) → set_to ts c ≡ found → 20 ≤ c → c < 32 → (notation : NotationState)
      → AreSpellable (preset_items symbols found c)
      → (s : Sets words symbols ts z notation (preset_items symbols found c) (preset symbols found c))
      × IsHeld words symbols ts s.next.placed c
  one c None e low high notation are = (
    record { next = notation; passes = stays; theta = refl; placed = refl; keeps = λ d h. h },
    λ o f. let q = sym e ∙ f in cc,
  )
  one c (Some o) e low high notation are =
      let n = operand_number symbols None o in
      let m : n ≤ 32767 = spelled_number (item_with 0 n false 17) are.1.0 in
      let l = locations_least z in
      let aimed : NotationState = record notation { directive = T_F + 2 * (24 + c) } in
      let w : word_in_fold words aimed (item_with 0 n false 17) ≡ 2 * n = omega arith in
      let next : NotationState = record {
        directive = T_F + 2 * (24 + c + 1);
        theta = notation.theta;
        placed = (24 + c, 2 * n)
            ∷ notation.placed;
      } in
      let here : IsHeld words symbols ts next.placed c = λ p f.
      let inside : 24 + c < length (over notation.placed words) = omega (arith, length-over notation.placed words) in
      get_or-set_same (over notation.placed words) (24 + c) (2 * n) 0 inside
      ∙ ap (λ (x : Operand). 2 * operand_number symbols None x) (same_Some o p (sym e ∙ f)) in (
        record {
          next = next;
          passes = goes (Does-aiming z words notation (24 + c) (omega arith)) (inl refl) (goes
              (Does-placing z words (24 + c) refl refl (omega arith) (omega arith) w)
              (inr refl) stays);
          theta = refl;
          placed = refl;
          keeps = λ d h. elim (cases_eq d c) [
            | inl q ↦ rw q here
            | inr q ↦ put_other words symbols ts {p = 24 + c} notation.placed (2 * n) d (omega arith) h
          ];
        },
        here,
      )

  pub Sets-letters : (cs : List ℕ) → are_letters cs ≡ true → (notation : NotationState)
      → AreSpellable (flat_map (λ c. preset_items symbols (set_to ts c) c) cs)
      → (s : Sets words symbols ts z notation (flat_map (λ c. preset_items symbols (set_to ts c) c) cs)
      (flat_map (λ c. preset symbols (set_to ts c) c) cs))
      × AreHeld words symbols ts s.next.placed cs
  Sets-letters [] are notation spelled =
      (record { next = notation; passes = stays; theta = refl; placed = refl; keeps = λ d h. h }, tt)
  Sets-letters (c ∷ cs) are notation spelled =
      let is = preset_items symbols (set_to ts c) c in
      let js = flat_map (λ c. preset_items symbols (set_to ts c) c) cs in
      let ps = preset symbols (set_to ts c) c in
      let qs = flat_map (λ c. preset symbols (set_to ts c) c) cs in
      let sp = AreSpellable-split is js spelled in
      let letters = and_parts _ _ are in
      let range = and_parts _ _ letters.0 in
      let a = one c _ refl (leb-true 20 c range.0) (ltb-true c 32 range.1) notation sp.0 in
      let b = Sets-letters cs letters.1 a.0.next sp.1 in (
        record {
          next = b.0.next;
          passes = Passes-join a.0.passes b.0.passes;
          theta = b.0.theta ∙ a.0.theta;
          placed = b.0.placed ∙ ap (λ m. reverse qs ++ m) a.0.placed ∙ reverse-append_both ps qs notation.placed;
          keeps = λ d h. b.0.keeps d (a.0.keeps d h);
        },
        (b.0.keeps c a.1, b.1),
      )

-- ---- the items of a routine

-- a code letter of a routine: F, θ, D or a parameter that is set
pub record IsPreset (ts : List Setting) (c : ℕ) : Type 0 where
  pub low : 21 ≤ c
  pub high : c ≤ 26
  pub operand : Operand
  pub is_set : set_to ts c ≡ Some operand

abbrev pub IsKnown : List Setting → ℕ → Type 0
IsKnown ts c = (c ≡ 17) ⊎ ((c ≡ 18) ⊎ ((c ≡ 19) ⊎ IsPreset ts c))

abbrev pub AreKnown : List Setting → List TableRow → Type 0
AreKnown ts [] = Unit {0}
AreKnown ts (row ∷ rows) = IsKnown ts row.end × AreKnown ts rows

kind_of : (ts : List Setting) (c : ℕ) → IsKnown ts c → row_kind c ≡ Letter
kind_of ts c known = grind arith

-- the word of a letter's parameter
parameter_is : (symbols : List Definition) (ts : List Setting) (c : ℕ) → 21 ≤ c → c ≤ 26
    → get_or (parameters symbols ts) (c - 21) 0 ≡ parameter symbols (set_to ts c)
parameter_is symbols ts c l h = grind arith

-- the value of a letter of a parameter is the content of its location
content : (contents : List ℕ) (theta c : ℕ) → 21 ≤ c → value_of contents theta c ≡ get_or contents (24 + c) 0
content contents theta c l = search (rules, ne_eqb)

-- a code letter of a routine has the same value over the store with the parameters of this use
value_is : {words : List ℕ} {symbols : List Definition} {ts : List Setting} {placed : List (ℕ × ℕ)} (base c : ℕ)
    → IsKnown ts c
    → HoldsAll words symbols ts placed
    → value_of (over placed words) (2 * base) c ≡ value_of (parameter_store (parameters symbols ts)) (2 * base) c
value_is base c known h = grind (arith, content, value_of_parameter, parameter_is)

-- a routine's items
pub image_pass : {z : Size} {words : List ℕ} {symbols : List Definition} {ts : List Setting} {placed : List (ℕ × ℕ)}
    (rows : List TableRow) (place base : ℕ) → AreKnown ts rows → 56 ≤ place
    → place + length rows ≤ locations z → HoldsAll words symbols ts placed
    → Passes z words (at place base placed) (map table_item rows)
    (at (place + length rows) base
    (reverse (placed_words place (map (λ row. routine_word (parameters symbols ts) base (table_item row))
    rows)) ++ placed))
image_pass [] place base are low high h = let e : place + 0 ≡ place = omega arith in rw e stays
image_pass {z} {words} {symbols} {ts} {placed} (row ∷ rows) place base are low high h =
    let w = routine_word (parameters symbols ts) base (table_item row) in
    let ws = map (λ row. routine_word (parameters symbols ts) base (table_item row)) rows in
    let e : place + suc (length rows) ≡ place + 1 + length rows = omega arith in
    let v : word_in_fold words (at place base placed) (table_item row) ≡ w =
    ap (λ v. word_with row.function row.number row.mark v) (value_is base row.end are.0 h) in
    let kind = kind_of ts row.end are.0 in
    let r = image_pass {z = z} {placed = (place, w) ∷ placed} rows (place + 1) base are.1 (omega arith) (omega arith)
    (still words symbols ts placed place w low h) in
    goes (Does-placing z words place kind refl (omega arith) (omega arith) v) (inr kind)
    (rw (e, ← (placed_more (place, w) (placed_words (place + 1) ws) placed)) r)
