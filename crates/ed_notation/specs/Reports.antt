-- What a check reports of a well-formed tape.
use Rattle.std.specs.Prelude.{ℕ, Bool, false, List, Option, Some, None, if◌then◌else◌, slice_index, slice_index_or}

-- the address of the entry, the cost in orders, the rows read up to the entry, θ, and for each location whether a word
-- was placed there, and the word
pub record Report : Type 0 where
  pub entry : ℕ
  pub orders : ℕ
  pub rows : ℕ
  pub theta : ℕ
  pub placed : List Bool
  pub words : List ℕ

-- the word that was placed at a location, or None
abbrev pub word_in : Report → ℕ → Option ℕ
word_in r a = if slice_index_or r.placed a false then Some (slice_index r.words a) else None
