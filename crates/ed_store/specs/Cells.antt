-- The store: 1,024 short locations and 512 sandwich digits, one between the two locations of each pair (the number of
-- locations, and that a short write keeps the sandwich digit, are this project's own rules).
use Rattle.std.specs.Prelude.{ℕ, ◌+◌, ◌-◌, ◌/◌, ◌%◌, ◌^◌, Bool, false, List, slice_index}
use Rattle.std.specs.Prelude.{slice_index_or, slice_set, replicate, ◌≡◌, ◌<◌, length}
use Rattle.ed_words.specs.Words.{long_of_halves, halves_of}

-- the words of all locations, and the sandwich digits of all pairs
pub record Cells : Type 0 where
  pub words : List ℕ
  pub sandwich : List Bool

-- what holds of each store
pub record IsStore (c : Cells) : Type 0 where
  pub words_are : length c.words ≡ 1024
  pub digits_are : length c.sandwich ≡ 512
  pub fits : (i : ℕ) → slice_index c.words i < 2 ^ 17

-- the store with 0 everywhere
abbrev pub cleared_cells : Cells
cleared_cells = record { words = replicate 1024 0; sandwich = replicate 512 false }

-- the even location of a location's pair
abbrev pub even : ℕ → ℕ
even a = a - a % 2

-- the odd location of a location's pair
abbrev pub odd : ℕ → ℕ
odd a = a - a % 2 + 1

-- the word of a location
abbrev pub short_at : Cells → ℕ → ℕ
short_at c a = slice_index c.words a

-- the sandwich digit of a location's pair
abbrev pub sandwich_at : Cells → ℕ → Bool
sandwich_at c a = slice_index_or c.sandwich (a / 2) false

-- the long word of a location's pair
abbrev pub long_at : Cells → ℕ → ℕ
long_at c a = long_of_halves (slice_index c.words (odd a)) (sandwich_at c a) (slice_index c.words (even a))

-- the store with a short word written; nothing else changes
abbrev pub with_short : Cells → ℕ → ℕ → Cells
with_short c a v = record { words = slice_set c.words a v; sandwich = c.sandwich }

-- the store with a long word written; both words of the pair and its sandwich digit change
abbrev pub with_long : Cells → ℕ → ℕ → Cells
with_long c a v = record {
  words = slice_set (slice_set c.words (even a) (halves_of v).even) (odd a) (halves_of v).odd;
  sandwich = slice_set c.sandwich (a / 2) (halves_of v).sandwich;
}
