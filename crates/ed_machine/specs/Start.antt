-- Start: an image of words in the first locations of the store, and a tape mounted (this project's own rule: all else
-- stays, the accumulator and the sandwich digits included).
use Rattle.std.specs.Prelude.{◌≡◌, ℕ, List, ◌++◌, drop, length}
use Rattle.ed_store.specs.Cells.{Cells}
use Rattle.ed_machine.specs.State.{State}

-- the store with the words of an image from location 0 upwards
abbrev pub with_image : List ℕ → Cells → Cells
with_image image c = record { words = image ++ drop (length image) c.words; sandwich = c.sandwich }

-- the state after Start
abbrev pub start_state : List ℕ → List ℕ → State → State
start_state image rows s = record s { store = with_image image s.store; counter = 0; tape = rows }

-- a list that ends with the rows of another
pub record EndsWith (xs ys : List ℕ) : Type 0 where
  pub before : List ℕ
  pub whole : xs ≡ before ++ ys
