-- The states in which the reading of a tape begins (Wilkes, Wheeler and Gill 1951, and what the Initial Orders do).
use Rattle.std.specs.Prelude.{ℕ, ◌≢◌, ◌≤◌, ◌/◌, List, [], slice_index}
use Rattle.ed_notation.specs.Fold.{NotationState}

-- the state in which the rest of a tape is read under a directive: θ is the content of location 42, no word is placed
abbrev pub opening_with : ℕ → List ℕ → NotationState
opening_with directive words = record { directive = directive; theta = slice_index words 42; placed = [] }

-- the state in which a whole tape is read: its directive is T 44 F
abbrev pub opening : List ℕ → NotationState
opening words = opening_with 20568 words

-- a directive is an order P (0), E (3) or T (5), whatever its other digits are
pub record IsDirective (d : ℕ) : Type 0 where
  pub no_1 : d / 4096 ≢ 1
  pub no_2 : d / 4096 ≢ 2
  pub no_4 : d / 4096 ≢ 4
  pub most : d / 4096 ≤ 5
