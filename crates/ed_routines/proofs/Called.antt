-- A routine at a base: its image in the store, and which words are unchanged once it has returned.
use Rattle.ed_routines.proofs.Kit.{A_F, Frame, Moment, short, state, Holds, patched, [], arith}
use Rattle.ed_routines.proofs.Kit.{Bool, get_or, length, List, Option, refl, rules, true, ℕ, ◌*◌}
use Rattle.ed_routines.proofs.Kit.{◌+◌, ◌<◌, ◌∷◌, ◌≡◌, ◌≤◌, locations, locations_most, State, place_count, with_h}
use Rattle.ed_routines.proofs.Kit.{IsOther, caller, HasWord, IsLoadedAt, IsOutside}
use Rattle.std.proofs.Common.{true≢false}
use Rattle.ed_machine.proofs.Kit.Frames.{Beside}
use Rattle.ed_machine.proofs.Kit.Standing.{IsWorking, filled, merged, patched-filled, get_or-patched}
use Rattle.ed_library.specs.Entries.{entry}
use Rattle.ed_library.specs.Routines.{missing_row}
use Rattle.ed_routines.proofs.Image.{Makes, none, more, all_plain, holds_rows, image_from, length_image, working_at}
use Rattle.std.proofs.lemmas.Grind.{common_steps}

-- the image of a routine at a base, with H, N, M and so on the locations hs
abbrev pub image : ℕ → ℕ → List ℕ → List (Option ℕ)
image r b hs = image_from (entry r).items (entry r).working b hs 0

-- a routine of n cells, the location that it is given and the location to which it returns are below a location
pub record IsWithin (n b h top : ℕ) (s : State) : Type 0 where
  pub under : b + n ≤ top
  pub near : h < top
  pub back : caller s + 3 ≤ top
  pub fits : top ≤ locations s.size

-- and always below the size
pub within_size : {r b h : ℕ} {parameters : List ℕ} {s : State} → IsLoadedAt r parameters b s → IsOutside r b h s
    → IsWithin (place_count r) b h (locations s.size) s
within_size o out = omega arith

-- a routine is called in a state, with a location h outside it, and all below a place
pub record IsCalled (r : ℕ) (parameters : List ℕ) (b h top : ℕ) (s : State) : Type 0 where
  pub all : length s.store.words ≡ 1024
  pub stands : IsLoadedAt r parameters b s
  pub outside : IsOutside r b h s
  pub within : IsWithin (place_count r) b h top s

-- that is so if nothing is required but that the store reaches so far
pub IsCalled-loaded : {r b h : ℕ} {parameters : List ℕ} {s : State} → length s.store.words ≡ 1024
    → IsLoadedAt r parameters b s
    → IsOutside r b h s → IsCalled r parameters b h (locations s.size) s
IsCalled-loaded all stands outside = search rules

-- a location outside a routine is outside its cells in the words of a store
pub Beside-outside : {r b h : ℕ} {s : State} (words : List ℕ) → length words ≡ 1024 → IsOutside r b h s
    → Beside words b (place_count r) h
Beside-outside {s = s} words all out = search rules

-- words that are a routine's at a base, except at its working locations, contain its image
pub holds_words : (r : ℕ) {parameters hs : List ℕ} {b : ℕ} {s : State} → b ≤ 1024 → Makes parameters hs
    → all_plain (length hs) (entry r).items ≡ true → ((i : ℕ) → i < place_count r → HasWord r parameters b s i)
    → Holds (image r b hs) s.store.words b
holds_words r {s = s} low makes plain words =
    holds_rows low makes (entry r).working missing_row (entry r).items s.store.words plain
    (λ i l. (words i l).has)

-- a routine at a base has its image in the store
pub Holds-loaded : {r b : ℕ} {parameters hs : List ℕ} {s : State} → IsLoadedAt r parameters b s → Makes parameters hs
    → all_plain (length hs) (entry r).items ≡ true → Holds (image r b hs) s.store.words b
Holds-loaded {r} {s = s} o makes plain = search (rules, locations_most, holds_words)

-- and so has one with the location h as its one parameter
pub holds_h : {r b h : ℕ} {s : State} → IsLoadedAt r (with_h h) b s → IsOutside r b h s
    → all_plain 1 (entry r).items ≡ true → Holds (image r b (h ∷ [])) s.store.words b
holds_h {h = h} {s} o out plain =
    let size = locations_most s.size in
    let below = out.below in
    let here : Makes (with_h h) (h ∷ []) = more (omega arith) refl none in
    Holds-loaded o here plain

-- a call of a routine of n cells: its base, the location from which it is called, and what is around it
pub record Call (n pairs : ℕ) : Type 0 where
  pub frame : Frame n pairs
  pub behind : 56 ≤ frame.base
  pub from : ℕ
  pub multiplier : ℕ
  pub tape : List ℕ
  pub sandwich : List Bool
  pub last : Option ℕ

-- the call in a state
abbrev pub call_of : {n pairs b h top : ℕ} {s : State} → 56 ≤ b → IsWithin n b h top s → Call n pairs
call_of {n} {pairs} {b} {h} {top} {s} low within = record {
  frame = record { size = s.size; base = b; top = top; under = within.under; fits = within.fits };
  behind = low;
  from = caller s;
  multiplier = s.multiplier;
  tape = s.tape;
  sandwich = s.store.sandwich;
  last = s.last;
}

-- a moment of a call: the words around the routine and in its cells, the number at the upper end of the
-- accumulator, and the cell of the next order
abbrev pub moment : {n pairs : ℕ} → Call n pairs → List ℕ → List ℕ → ℕ → ℕ → Moment
moment call words cells top i = record {
  words = words;
  digits = call.sandwich;
  cells = cells;
  pairs = [];
  acc = short top;
  multiplier = call.multiplier;
  counter = call.frame.base + i;
  tape = call.tape;
  last = call.last;
}

-- a state in which a routine is called is the moment of the call
pub state-begins : {r n b h top : ℕ} {parameters : List ℕ} {s : State} (hs : List ℕ) (o : IsLoadedAt r parameters b s)
    (within : IsWithin n b h top s) → length s.store.words ≡ 1024 → Holds (image r b hs) s.store.words b
    → state (call_of {pairs = 0} o.low within).frame (moment (call_of {pairs = 0} o.low within) s.store.words
    (filled (image r b hs) s.store.words b 0) (A_F + 2 * caller s) 0) s.orders ≡ s
state-begins {r} {b = b} {s = s} hs o within all holds =
    search (rules, holds, locations_most, length_image, patched-filled)

-- a location that is not a working one is not one of the image's working ones
not_working : {r b i : ℕ} (hs : List ℕ) → IsOther r b i → IsWorking (image r b hs) b i → ⊥
not_working {r} {b} {i} hs o w = grind (arith, common_steps, length_image, true≢false, working_at)

-- a word outside the working locations is unchanged
pub get_or-kept : {r b i : ℕ} (hs : List ℕ) → IsOther r b i → (ws cells : List ℕ) → length cells ≡ length (image r b hs)
    → merged (image r b hs) cells ≡ cells → Holds (image r b hs) ws b
    → get_or (patched 0 ws b cells) i 0 ≡ get_or ws i 0
get_or-kept {r} {b} {i} hs o ws cells long new old = search (rules, get_or-patched, not_working)
