-- What the fold does at the items of one line.
use Rattle.ed_link.proofs.Kit.{reverse, eq-eqb, T_F, Size, word_with, AreSpellable, Item, [], ap, arith, false}
use Rattle.ed_link.proofs.Kit.{if◌then◌else◌, length, List, nat_eq, nat_lt, None, Option, refl, Some, true, ℕ, ◌*◌}
use Rattle.ed_link.proofs.Kit.{◌++◌, ◌+◌, ◌<◌, ◌∙◌, ◌∷◌, ◌≡◌, ◌≤◌, flat_map, le-ltb, lt-ltb, locations, digit}
use Rattle.ed_link.proofs.Kit.{NotationState, Setting, Statement, Enter, Fetch, Long, Number, Order, Rows, Segment}
use Rattle.ed_link.proofs.Kit.{Text, map, length-map, entry, routine_word, find, table_item, even_from, segment_at}
use Rattle.ed_link.proofs.Kit.{LocationCounter, Definition, after_statement, first_place, image, long_words}
use Rattle.ed_link.proofs.Kit.{operand_number, parameter_letters, parameters, placed_by_line, placed_words, presets}
use Rattle.ed_link.proofs.Kit.{set_to, items_of, preset_items, routine_items, use_items, with_heading, word_item}
use Rattle.ed_symbols.specs.Places.{routine_places as places_of}
use Rattle.ed_link.proofs.Orders.{AreSpellable-split, laid_pass, order_pass, headed_pass, AreSpellable-unheaded}
use Rattle.ed_link.proofs.Passes.{Passes, stays, Passes-join, at}
use Rattle.ed_link.proofs.Uses.{AreKnown, Sets-letters, HoldsAll-held, image_pass, reverse-append_both}
use Rattle.ed_link.proofs.Kit.{rules}
use Rattle.std.proofs.lemmas.Grind.{common_steps}

-- no location is before itself
pub lt_same : (a : ℕ) → nat_lt a a ≡ false
lt_same a = le-ltb a a (omega arith)

-- a location is equal to itself
eq_same : (a : ℕ) → nat_eq a a ≡ true
eq_same a = eq-eqb a a refl

-- the state of the notation at a line
pub record IsReady (theta : ℕ) (s : LocationCounter) (notation : NotationState) : Type 0 where
  pub base : s.base ≤ s.place
  pub follows : nat_eq s.place s.base ≡ false → (notation.directive ≡ T_F + 2 * s.place)
      × (notation.theta ≡ 2 * s.base)
  pub theta_is : notation.theta ≡ theta

-- θ after a line
abbrev pub theta_behind : ℕ → ℕ → LocationCounter → ℕ
theta_behind theta first next = if nat_lt first next.place then 2 * next.base else theta

-- what the items of a line do
pub record Line (z : Size) (words : List ℕ) (theta first : ℕ) (next : LocationCounter) (notation : NotationState)
    (is : List Item)
    (ps : List (ℕ × ℕ))
    : Type 0 where
  pub last : NotationState
  pub passes : Passes z words notation is last
  pub ready : IsReady (theta_behind theta first next) next last
  pub placed : last.placed ≡ reverse ps ++ notation.placed

-- what a `use` needs
abbrev pub IsUse : Size → List Setting → ℕ → Option ℕ → Type 0
IsUse z ts base None = ⊥
IsUse z ts base (Some r) = (0 < length (entry r).items) × (56 ≤ base) × (base + length (entry r).items ≤ locations z)
    × AreKnown ts (entry r).items

-- what a line other than an `enter` line needs
abbrev pub IsSound : Size → LocationCounter → Option Statement → Type 0
IsSound z s (Some (Order f o long)) = (56 ≤ s.place) × (s.place + 1 ≤ locations z)
IsSound z s (Some (Number w)) = (56 ≤ s.place) × (s.place + 1 ≤ locations z)
IsSound z s (Some (Text codes)) = (0 < length codes.items) × (56 ≤ s.place)
    × (s.place + length codes.items ≤ locations z)
IsSound z s (Some (Long v)) = (56 ≤ s.place) × (even_from s.place + 2 ≤ locations z)
IsSound z s (Some (Fetch routine name ts)) = IsUse z ts.items (even_from s.place) (find routine)
IsSound z s (Some (Enter name)) = ⊥
IsSound z s st = Unit {0}

-- the location after a `long`
pub long_spot : (s : LocationCounter) (v : ℕ)
    → record s { place = s.place + length (long_words s.place v) } ≡ after_statement (Some (Long v)) s
long_spot s v = search rules

module _ {z : Size} {words : List ℕ} {theta : ℕ} {s : LocationCounter} {notation : NotationState}
    (ready : IsReady theta s notation)
    (whole : length words ≡ 1024) (symbols : List Definition) where
  -- a line of no words
  quiet : Line z words theta s.place s notation [] []
  quiet = record { last = notation; passes = stays; ready = search (rules, lt_same); placed = refl }

  -- a line of words in a segment
  in_segment : (is : List Item) (ws : List ℕ) → 0 < length is → 0 < length ws → s.place + length ws ≤ locations z
      → Passes z words (at s.place s.base notation.placed) is
      (at (s.place + length ws) s.base (reverse (placed_words s.place ws) ++ notation.placed))
      → Line z words theta s.place (record s { place = s.place + length ws }) notation
      (with_heading is (nat_eq s.place s.base) s.base)
      (placed_words s.place ws)
  in_segment is ws some more high p = record {
    last = at (s.place + length ws) s.base (reverse (placed_words s.place ws) ++ notation.placed);
    passes = headed_pass s.place s.base _ refl (omega arith) some ready.follows p;
    ready = search (rules, lt-ltb);
    placed = refl;
  }

  -- a line of numbers
  numbered : (ws : List ℕ) → AreSpellable (with_heading (map word_item ws) (nat_eq s.place s.base) s.base)
      → 0 < length ws
      → 56 ≤ s.place
      → s.place + length ws ≤ locations z
      → Line z words theta s.place (record s { place = s.place + length ws }) notation
      (with_heading (map word_item ws) (nat_eq s.place s.base) s.base) (placed_words s.place ws)
  numbered ws are some low high = search (rules, in_segment, laid_pass, AreSpellable-unheaded)

  use_line : (ts : List Setting) (base : ℕ) (found : Option ℕ) (segments : ℕ) → IsUse z ts base found
      → AreSpellable (use_items symbols ts base found)
      → Line z words theta base
      (record { place = base + places_of found; base = base; segments = segments; inside = false }) notation
      (use_items symbols ts base found) (presets symbols ts ++ image symbols ts base found)
  use_line ts base None segments is are = absurd is
  use_line ts base (Some r) segments is are =
      let rows = (entry r).items in
      let js = flat_map (λ c. preset_items symbols (set_to ts c) c) parameter_letters in
      let sp = AreSpellable-split js (with_heading (routine_items (Some r)) true base) are in
      let a = Sets-letters {z = z} {words = words} whole symbols ts parameter_letters refl notation sp.0 in
      let m = a.0.next in
      let held = HoldsAll-held words symbols ts m.placed a.1 in
      let img = placed_words base (map (λ row. routine_word (parameters symbols ts) base (table_item row)) rows) in
      let last = at (base + length rows) base (reverse img ++ m.placed) in
      let p = image_pass {z = z} rows base base is.3 is.1 is.2 held in
      let l : 0 < length (map table_item rows) = let e = length-map rows table_item in omega (arith, is.0) in
      let h = headed_pass {z = z} {notation = m} base base true (eq_same base) (omega (arith, is.0, is.2)) l
      (λ e. cc) p in
      record {
        last = last;
        passes = Passes-join a.0.passes h;
        ready = record {
          base = omega arith;
          follows = λ e. (refl, refl);
          theta_is = let e = lt-ltb base (base + length rows) (omega (arith, is.0)) in rw e refl;
        };
        placed = ap (λ x. reverse img ++ x) a.0.placed ∙ reverse-append_both (presets symbols ts) img notation.placed;
      }

  pub Line-sound : (st : Option Statement) → IsSound z s st → AreSpellable (items_of symbols s st)
      → Line z words theta (first_place st s) (after_statement st s) notation (items_of symbols s st)
      (placed_by_line symbols s st)
  Line-sound None is are = quiet
  Line-sound (Some (Segment name base)) is are =
      record { last = notation; passes = stays; ready = search (rules, lt_same, eq_same); placed = refl }
  Line-sound (Some (Order f o long)) is are =
      let w = word_with f (operand_number symbols (segment_at s) o) false (digit long) in
      in_segment _ (w ∷ []) (omega arith) (omega arith) is.1
      (order_pass symbols s f o long (omega (arith, is.0)) (omega (arith, is.1)))
  Line-sound (Some (Number w)) is are = numbered (w ∷ []) are (omega arith) is.0 is.1
  Line-sound (Some (Text codes)) is are = grind (arith, common_steps, numbered)
  Line-sound (Some (Long v)) is are =
      let e = long_spot s v in
      let p : s.place + length (long_words s.place v) ≡ even_from s.place + 2 =
      ap (λ (x : LocationCounter). x.place) e in
      rw (← e) (numbered _ are (omega (arith, p)) is.0 (omega (arith, p, is.1)))
  Line-sound (Some (Fetch routine name ts)) is are = use_line ts.items _ _ _ is are
  Line-sound (Some (Enter name)) is are = absurd is
  Line-sound (Some (Rows codes)) is are = quiet
