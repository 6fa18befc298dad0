-- A source's program on its way from call to call: which words are still those of its entry.
use Rattle.ed_sources.proofs.Kit.{A_F, G_F, Size, Line, unwrap_or, locations_least, placed_at, arith, inl, inr, length}
use Rattle.ed_sources.proofs.Kit.{List, true, ℕ, ◌*◌, ◌+◌, ◌<◌, ◌∙◌, ◌≡◌, ◌≤◌, short_at, State, place_count, HasWord}
use Rattle.ed_sources.proofs.Kit.{entry_state, IsOutside, Z_F, print, with_h, digits, print_orders, ◌∷◌, StopsAt}
use Rattle.ed_sources.proofs.AtEntry.{all_words, has_image, have_places, image_at, placed, word_at}
use Rattle.ed_sources.proofs.CalledRoutines.{IsBeside, Passes, print_passes, StopsAt-passes}
use Rattle.ed_sources.proofs.Calling.{HasRoutine, IsBefore}
use Rattle.std.proofs.Common.{rules}

-- the program is at m with a clear accumulator, and the words outside those from one location to another are as at its
-- entry
pub record IsAt (z : Size) (lines : List Line) (t : State) (from to m : ℕ) : Type 0 where
  pub fit : have_places (placed lines) ≡ true
  pub counter : t.counter ≡ m
  pub acc : t.acc ≡ 0
  pub all : length t.store.words ≡ 1024
  pub size : t.size ≡ z
  pub kept : (i : ℕ) → IsBeside from to i → short_at t.store i ≡ short_at (entry_state z lines).store i

-- as it is at the entry
pub IsAt-entered : {z : Size} {lines : List Line} {from to m : ℕ} → have_places (placed lines) ≡ true
    → (entry_state z lines).counter ≡ m → IsAt z lines (entry_state z lines) from to m
IsAt-entered {z} {lines} fit counter = search (rules, all_words)

-- the source places a call of a routine at m, and the routine at a base, after what was changed
pub record HasCall (lines : List Line) (r base : ℕ) (parameters : List ℕ) (from to m : ℕ) : Type 0 where
  pub first : unwrap_or (placed_at (placed lines) m) 0 ≡ A_F + 2 * m
  pub second : unwrap_or (placed_at (placed lines) (m + 1)) 0 ≡ G_F + 2 * base
  pub image : has_image (placed lines) r base parameters ≡ true
  pub early : 44 ≤ m
  pub inside : m + 3 ≤ from
  pub behind : from ≤ to
  pub above : to ≤ base
  pub low : 56 ≤ base
  pub high : base + place_count r < 512

module _ {z : Size} {lines : List Line} {t : State} {from to m : ℕ} (o : IsAt z lines t from to m) where
  -- a word that the source places
  pub word_there : (i w : ℕ) → IsBeside from to i → 44 ≤ i → i < 1024 → unwrap_or (placed_at (placed lines) i) 0 ≡ w
      → short_at t.store i ≡ w
  word_there i w beside low high is = o.kept i beside ∙ word_at z lines o.fit i low high ∙ is

  -- it is after a call that changes no other words
  pub IsAt-passed : {k first end : ℕ} {codes : List ℕ} (p : Passes k t codes m first end) → from ≤ first → to ≤ end
      → IsAt z lines p.last from end (m + 2)
  IsAt-passed {first = first} {end = end} p low high = search rules

  module _ {r base : ℕ} {parameters : List ℕ} (c : HasCall lines r base parameters from to m) where
    -- the two orders of the call are there
    pub IsBefore-placed : IsBefore t m base
    IsBefore-placed = search (rules, locations_least, word_there)

    -- and the routine
    pub HasRoutine-placed : HasRoutine t r base parameters
    HasRoutine-placed =
        let size = locations_least z in
        record {
          low = c.low;
          fits = rw o.size (omega arith);
          at2 = o.kept 2 (inl (omega arith));
          at3 = o.kept 3 (inl (omega arith));
          image = λ i l.
              let word : HasWord r parameters base (entry_state z lines) i =
              image_at z lines o.fit c.image (omega arith) (omega arith) l in
              record { has = λ free. o.kept (base + i) (inr (omega arith)) ∙ word.has free };
        }

    -- a location before the routine is outside it
    pub IsOutside-below : {h : ℕ} → h < base → IsOutside r base h t
    IsOutside-below near = let size = locations_least z in record { below = rw o.size (omega arith); beside = inl near }

    -- the order after the call stops the machine
    pub StopsAt-placed : {k end : ℕ} {codes : List ℕ} → Passes k t codes m base end
        → unwrap_or (placed_at (placed lines) (m + 2)) 0 ≡ Z_F → StopsAt k t codes (m + 2)
    StopsAt-placed p is =
        StopsAt-passes p (inl (omega arith)) (word_there (m + 2) Z_F (inl (omega arith)) (omega arith) (omega arith) is)

  -- a call of `print` prints the number at h
  pub Passes-print : (h : ℕ) {base n : ℕ} → HasCall lines print base (with_h h) from to m → h < base
      → short_at t.store h ≡ n → n < 65536 → Passes (2 + print_orders n) t (11 ∷ digits n) m base (base + 51)
  Passes-print h c near number small = print_passes (IsBefore-placed c) (HasRoutine-placed c)
      (IsOutside-below c near) number small
