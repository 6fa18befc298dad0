-- Extents of lines that are below a location: what is from there upwards doesn't overlap them.
use Rattle.ed_link.proofs.Kit.{max, min, [], ap, arith, Bool, false, List, nat_le, nat_lt, None, Option, refl, suc}
use Rattle.ed_link.proofs.Kit.{true, ℕ, ◌++◌, ◌+◌, ◌∙◌, ◌∷◌, ◌≡◌, ◌≤◌, list_all, and_parts, le-ltb, leb-true}
use Rattle.ed_link.proofs.Kit.{SourceCause, SourceFault, zero, LocationCounter, list_any, or_later, extent}
use Rattle.ed_link.proofs.Kit.{LinesBefore, overlaps, Extent}
use Rattle.std.proofs.lemmas.Bool.{le-leb}
use Rattle.std.proofs.lemmas.List.Folds.{list_all-append}
use Rattle.ed_link.proofs.Kit.{rules}
use Rattle.std.proofs.lemmas.Grind.{common_steps}

-- the extents of lines
abbrev pub ExtentList : Type 0
ExtentList = List Extent

-- they are below a location
abbrev pub are_below : ℕ → ExtentList → Bool
are_below p extents = list_all (λ e. nat_le e.after p) extents

pub below_more : (p q : ℕ) (extents : ExtentList) → p ≤ q → are_below p extents ≡ true → are_below q extents ≡ true
below_more p q [] l h = refl
below_more p q (e ∷ extents) l h =
    let s = and_parts _ _ h in
    let under = leb-true e.after p s.0 in
    rw (le-leb e.after q (omega arith), below_more p q extents l s.1) refl

-- and so are those of one more line
pub one_more : (p a q : ℕ) (extents : ExtentList) → p ≤ q → are_below p extents ≡ true
    → are_below q (extents ++ extent a q ∷ []) ≡ true
one_more p a q extents l h = search (rules, list_all-append, below_more, le-leb)

-- extents from there upwards don't overlap them
pub list_any-apart : (p a b : ℕ) (extents : ExtentList) → p ≤ a → are_below p extents ≡ true
    → list_any (λ other. overlaps (extent a b) other) extents ≡ false
list_any-apart p a b [] l h = refl
list_any-apart p a b (e ∷ extents) l h =
    let s = and_parts _ _ h in
    let under = leb-true e.after p s.0 in
    rw (le-ltb (max a e.from) (min b e.after) (omega arith), list_any-apart p a b extents l s.1) refl

-- a line, and those after it
pub none_later : (l : ℕ) (cause : Option SourceCause) (later : Option SourceFault) → cause ≡ None → later ≡ None
    → or_later l cause later ≡ None
none_later l cause later here there = ap (λ (c : Option SourceCause). or_later l c later) here ∙ there

-- the tests of a line's extent, which is above 55 and within a store
pub record FitsStore (top a b : ℕ) : Type 0 where
  pub loader : nat_lt (max a 0) (min b 44) ≡ false
  pub parameters : nat_lt (max a 44) (min b 56) ≡ false
  pub store : nat_lt (max a top) (min b b) ≡ false

pub fits_store : (top a b : ℕ) → 56 ≤ a → b ≤ top → FitsStore top a b
fits_store top a b low fits = grind (arith, common_steps)

-- a location counter inside a segment, and lines before any `enter`
abbrev pub counter : ℕ → ℕ → ℕ → LocationCounter
counter place base segments = record { place = place; base = base; segments = segments; inside = true }

abbrev pub past : ExtentList → LinesBefore
past extents = record { extents = extents; entered = false }

-- the extents of n lines of one word
abbrev pub one_by_one : ℕ → ℕ → ExtentList
one_by_one zero p = []
one_by_one (suc n) p = extent p (p + 1) ∷ one_by_one n (p + 1)
