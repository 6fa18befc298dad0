-- A machine that has the routine, as a state of its paths, and back.
use Rattle.ed_checker.proofs.Kit.{A_F, long_at, pair, sum-parts, get_own, [], ap, arith, false, get_or, inr, length}
use Rattle.ed_checker.proofs.Kit.{List, lit<, None, Option, refl, rules, sym, ℕ, ◌%◌, ◌*◌, ◌+◌, ◌-◌, ◌/◌, ◌<◌, ◌∙◌, ◌∷◌}
use Rattle.ed_checker.proofs.Kit.{◌≡◌, ◌≤◌, locations, address_of, locations_most, IsStore, State, lit≤, short_at}
use Rattle.ed_checker.proofs.Kit.{Frame, Moment, state, CheckerStands, guest, IsOutsideChecker}
use Rattle.ed_routines.proofs.Kit.{Holds, length_patched, patched, with_h, IsOther}
use Rattle.ed_machine.proofs.Kit.Places.{read_at-value}
use Rattle.ed_machine.proofs.Kit.Standing.{filled, patched-filled}
use Rattle.ed_machine.proofs.Kit.Window.{get_below, get_above, patched_self}
use Rattle.ed_library.specs.Routines.{is_working}
use Rattle.ed_routines.proofs.Called.{holds_words, image, get_or-kept}
use Rattle.ed_routines.proofs.Image.{Makes, none, more}
use Rattle.ed_checker.specs.Checker.{HasImage, check}
use Rattle.ed_checker.proofs.Alike.{Alike}
use Rattle.ed_checker.proofs.Halves.{low_half, high_half}
use Rattle.ed_checker.proofs.Paths.{IsSaved, Work, Around, cells, cells_with, pairs, moment}
use Rattle.ed_checker.proofs.Saving.{whole}

-- what a state has outside the routine
abbrev pub around : State → Around
around s = record { words = s.store.words; digits = s.store.sandwich; multiplier = s.multiplier; tape = s.tape }

-- a state with these words and sandwich digits in the routine's locations
pub record HasCells (f : Frame 66 30) (w : Work) (s : State) : Type 0 where
  pub size : f.size ≡ s.size
  pub word_count : length s.store.words ≡ 1024
  pub digit_count : length s.store.sandwich ≡ 512
  pub words : (j : ℕ) → j < 66 → get_or (cells f.base w) j 0 ≡ get_or s.store.words (f.base + j) 0
  pub digits : (j : ℕ) → j < 3 → get_or (pairs w) j false ≡ get_or s.store.sandwich (f.base / 2 + 30 + j) false

pub state-opened : (f : Frame 66 30) (even : f.base % 2 ≡ 0) (w : Work) (s : State) (at : ℕ) → HasCells f w s
    → s.counter ≡ f.base + at
    → state f (moment f.base (around s) w s.acc at s.last) s.orders ≡ s
state-opened f even w s at h counter = search (rules, locations_most, patched_self)

-- the routine's image at a base
abbrev check_image : ℕ → List (Option ℕ)
check_image b = image check b (0 ∷ [])

-- the image is in a store
holds_image : {b : ℕ} {s : State} → b ≤ 1024 → HasImage b s → Holds (check_image b) s.store.words b
holds_image low h =
    let makes : Makes (with_h 0) (0 ∷ []) = more (lit≤ tt) refl none in
    holds_words check low makes refl h

module _ (base : ℕ) (even_base : base % 2 ≡ 0) (s : State) (is_store : IsStore s.store)
    (room : base + 66 ≤ locations s.size) where
  abbrev pub frame : Frame 66 30
  frame = record { size = s.size; base = base; top = locations s.size; under = room; fits = omega arith }

  -- the changing words of the routine
  abbrev pub work : Work
  work = record {
    at0 = get_or s.store.words (base + 0) 0;
    at40 = get_or s.store.words (base + 40) 0;
    at58 = get_or s.store.words (base + 58) 0;
    at59 = get_or s.store.words (base + 59) 0;
    high = long_at s.store (base + 60);
    middle = long_at s.store (base + 62);
    low = long_at s.store (base + 64);
  }

  filled_is : filled (check_image base) s.store.words base 0 ≡ cells base work
  filled_is =
      let e60 = low_half base even_base s is_store 60 refl in
      let e61 = high_half base even_base s is_store 60 refl in
      let e62 = low_half base even_base s is_store 62 refl in
      let e63 = high_half base even_base s is_store 62 refl in
      let e64 = low_half base even_base s is_store 64 refl in
      let e65 = high_half base even_base s is_store 64 refl in
      λ i. cells_with base work (e60 i) (e61 i) (e62 i) (e63 i) (e64 i) (e65 i)

  pair_is : (j : ℕ) → j < 3 → get_or (pairs work) j false ≡ get_or s.store.sandwich (base / 2 + 30 + j) false
  pair_is j h = search rules

  pub HasCells-holds : CheckerStands base s → HasCells frame work s
  HasCells-holds stands = record {
    size = refl;
    word_count = is_store.words_are;
    digit_count = is_store.digits_are;
    words = λ j lj.
        let b = locations_most s.size in
        let c = is_store.words_are in
        let whole = patched-filled (check_image base) s.store.words base (omega arith)
        (holds_image (omega arith) stands.image) in
        sym (get_own 0 s.store.words base (cells base work) j lj)
        ∙ ap (λ xs. get_or (patched 0 s.store.words base xs) (base + j) 0) (sym filled_is)
        ∙ ap (λ xs. get_or xs (base + j) 0) whole;
    digits = pair_is;
  }

-- the guest of a state of the paths
module _ (f : Frame 66 30) (even : f.base % 2 ≡ 0) (o : Around) (w : Work) where
  abbrev at_turn : Option ℕ → ℕ → State
  at_turn last k = state f (moment f.base o w 0 0 last) k

  -- its counter and its accumulator come from the store alone
  abbrev the_moment : Moment
  the_moment = moment f.base o w 0 0 None

  abbrev the_state : State
  the_state = at_turn None 0

  first_word : short_at the_state.store f.base ≡ w.at0
  first_word =
      let z : f.base ≡ f.base + 0 = omega arith in
      search (rules, cells, get_own, lit<)

  high_is : long_at the_state.store (f.base + 60) ≡ w.high
  high_is = read_at-value f the_moment (pair 60 0 even) refl refl ∙ sum-parts w.high

  middle_is : long_at the_state.store (f.base + 62) ≡ w.middle
  middle_is = read_at-value f the_moment (pair 62 1 even) refl refl ∙ sum-parts w.middle

  low_is : long_at the_state.store (f.base + 64) ≡ w.low
  low_is = read_at-value f the_moment (pair 64 2 even) refl refl ∙ sum-parts w.low

  pub guest_counter : (c : ℕ) → w.at0 ≡ A_F + 2 * c → c < 1024 → (guest f.base the_state).counter ≡ c
  guest_counter c fetch room = ap address_of (first_word ∙ fetch) ∙ omega arith

  pub guest_acc : (guest f.base the_state).acc ≡ whole w.high w.middle w.low
  guest_acc = rw (high_is, middle_is, low_is) refl

  -- the image is still that of a state if the routine's own words come from it
  image_is : {m : State} → HasImage f.base m → HasImage f.base the_state
  image_is {m} h i l = record {
    has = λ free.
        let b = locations_most f.size in
        let u = f.under in
        let v = f.fits in
        let e : f.base + i - f.base ≡ i = omega arith in
        let other : IsOther check f.base (f.base + i) = record {
          other = inr (inr (ap (λ x. is_working check x) e ∙ free));
        } in
        get_own 0 o.words f.base (cells f.base w) i l
        ∙ sym (get_own 0 m.store.words f.base (cells f.base w) i l)
        ∙ get_or-kept (0 ∷ []) other m.store.words (cells f.base w) refl refl (holds_image (omega arith) h)
        ∙ (h i l).has free;
  }

  -- the routine is at the beginning of a turn
  pub stands_again : {c k : ℕ} {last : Option ℕ} {m : State} → w.at0 ≡ A_F + 2 * c → c < 1024
      → HasImage f.base m → IsSaved w.high w.middle w.low → CheckerStands f.base (at_turn last k)
  stands_again {c} fetch room old saved =
      let few = saved.few in
      let low = saved.low_is in
      record {
        counter = omega arith;
        acc = refl;
        image = λ i l. record { has = (image_is old i l).has };
        fetch = first_word ∙ fetch ∙ ap (λ x. A_F + 2 * x) (sym (guest_counter c fetch room));
        middle = rw middle_is saved.middle_fits;
        low = rw (low_is, low) (omega arith);
        low_few = rw (low_is, low) (omega arith);
      }

-- outside the routine, a state of its paths is the state from which it was made
module _ (f : Frame 66 30) (w : Work) (t : State) (same : f.size ≡ t.size)
    (words_are : length t.store.words ≡ 1024) (digits_are : length t.store.sandwich ≡ 512) where
  word : (a : ℕ) → IsOutsideChecker f.base a
      → get_or (patched 0 t.store.words f.base (cells f.base w)) a 0 ≡ get_or t.store.words a 0
  word a h = search (rules, get_below, get_above)

  digit : (a : ℕ) → IsOutsideChecker f.base a
      → get_or (patched false t.store.sandwich (f.base / 2 + 30) (pairs w)) (a / 2) false
      ≡ get_or t.store.sandwich (a / 2) false
  digit a h = search (rules, get_below, get_above)

  pub alike_around : {k : ℕ} {last : Option ℕ} (at : ℕ)
      → Alike f.base (state f (moment f.base (around t) w t.acc at last) k) t
  alike_around at = search (rules, locations_most, word, digit, length_patched)
