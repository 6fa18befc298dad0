-- A program whose words are known at its entry is at its base, by one test.
use Rattle.ed_sources.proofs.Kit.{Size, Line, nat_eq, None, list_all, image_word, unwrap_or, eqb-true, locations_least}
use Rattle.ed_sources.proofs.Kit.{placed_at, HasRoutine, [], arith, Bool, get_or, length, List, Option, refl, Some}
use Rattle.ed_sources.proofs.Kit.{true, ℕ, ◌+◌, ◌<◌, ◌∙◌, ◌≡◌, ◌≤◌, ◌⊎◌, locations, short_at, State, Frame, Moment}
use Rattle.ed_sources.proofs.Kit.{Holds, place_count, entry_state}
use Rattle.ed_machine.proofs.Kit.Standing.{Meets}
use Rattle.ed_sources.proofs.AtEntry.{has_image, have_places, placed, word_at}
use Rattle.ed_sources.proofs.Decimals.{list_all-numbers, numbers}

-- whether a word is the wanted one, if one is wanted
abbrev pub is_met : Option ℕ → ℕ → Bool
is_met None w = true
is_met (Some x) w = nat_eq w x

pub meets_of : (o : Option ℕ) (w : ℕ) → is_met o w ≡ true → Meets o w
meets_of None w h = tt
meets_of (Some x) w h = eqb-true w x h

module _ (z : Size) (lines : List Line) where
  -- if the words below a location are known
  module _ (word : ℕ → Option ℕ) (top : ℕ)
      (word_is : (a : ℕ) → 44 ≤ a → a < top → short_at (entry_state z lines).store a ≡ unwrap_or (word a) 0) where
    -- a store holds an image at a base
    pub holds_by : (image : List (Option ℕ)) (base : ℕ)
        → list_all (λ i. is_met (get_or image i None) (unwrap_or (word (base + i)) 0)) (numbers 0 (length image)) ≡ true
        → 44 ≤ base → base + length image ≤ top → Holds image (entry_state z lines).store.words base
    holds_by image base test low high i l =
        let met : is_met (get_or image i None) (unwrap_or (word (base + i)) 0) ≡ true =
        list_all-numbers (λ i. is_met (get_or image i None) (unwrap_or (word (base + i)) 0)) 0 (length image) i test
        (omega arith)
        (omega arith) in
        let here = word_is (base + i) (omega arith) (omega arith) in
        rw here (meets_of (get_or image i None) (unwrap_or (word (base + i)) 0) met)

    -- and a routine of the library outside a piece
    pub routine_by : {n h : ℕ} (f : Frame n h) (r base : ℕ) (parameters : List ℕ)
        → list_all (λ i. nat_eq (unwrap_or (word (base + i)) 0) (image_word r i base parameters))
        (numbers 0 (place_count r)) ≡ true
        → 56 ≤ base → base + place_count r ≤ 512 → base + place_count r ≤ top → base < f.top
        → (base + place_count r ≤ f.base) ⊎ (f.base + n ≤ base)
        → HasRoutine f (entry_state z lines).store.words r base parameters
    routine_by f r base parameters test low high under reached apart = record {
      low = low;
      fits = let size = locations_least f.size in omega arith;
      reached = reached;
      apart = apart;
      at2 = refl;
      at3 = refl;
      image = λ i l free. word_is (base + i) (omega arith) (omega arith)
          ∙ eqb-true (unwrap_or (word (base + i)) 0) (image_word r i base parameters)
          (list_all-numbers (λ i. nat_eq (unwrap_or (word (base + i)) 0) (image_word r i base parameters)) 0
          (place_count r) i test
          (omega arith) (omega arith));
    }

  -- the same where all words of the source are known
  module _ (fit : have_places (placed lines) ≡ true) where
    pub stands_at : (image : List (Option ℕ)) (base : ℕ)
        → list_all (λ i. is_met (get_or image i None) (unwrap_or (placed_at (placed lines) (base + i)) 0))
        (numbers 0 (length image)) ≡ true
        → 44 ≤ base → base + length image ≤ 1024 → Holds image (entry_state z lines).store.words base
    stands_at = holds_by (placed_at (placed lines)) 1024 (word_at z lines fit)

    pub routine_at : {n h : ℕ} (f : Frame n h) (r base : ℕ) (parameters : List ℕ)
        → has_image (placed lines) r base parameters ≡ true → 56 ≤ base → base + place_count r ≤ 512 → f.size ≡ z
        → base < f.top
        → (base + place_count r ≤ f.base) ⊎ (f.base + n ≤ base)
        → HasRoutine f (entry_state z lines).store.words r base parameters
    routine_at f r base parameters test low high same reached apart =
        routine_by (placed_at (placed lines)) 1024 (word_at z lines fit) f r base parameters test low high (omega arith)
        reached apart

-- a piece of n cells at 56, the base of a source's program, and what is around it at its entry
abbrev pub frame_at : (n : ℕ) (z : Size) → n ≤ 456 → Frame n 0
frame_at n z few = record {
  size = z;
  base = 56;
  top = locations z;
  under = let size = locations_least z in omega arith;
  fits = omega arith;
}

abbrev pub moment_at : State → Moment
moment_at s = record {
  words = s.store.words;
  digits = s.store.sandwich;
  cells = [];
  pairs = [];
  acc = 0;
  multiplier = s.multiplier;
  counter = 56;
  tape = s.tape;
  last = None;
}
