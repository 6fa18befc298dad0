-- The state of the machine (Wilkes, Wheeler and Gill 1951; the last printed code, and the two sizes, are this project's
-- own rules).
use Rattle.std.specs.Prelude.{ℕ, List, [], Option, None}
use Rattle.ed_words.specs.declared.size.Size.{Size}
use Rattle.ed_store.specs.Cells.{Cells, cleared_cells}

-- the whole state of a machine between two orders
pub record State : Type 0 where
  -- how many locations the orders reach
  pub size : Size
  -- the words of 1,024 locations and the sandwich digits of their pairs
  pub store : Cells
  -- the accumulator, in units of 2^-70
  pub acc : ℕ
  pub multiplier : ℕ
  -- the location of the next order
  pub counter : ℕ
  -- the rows of tape not yet read
  pub tape : List ℕ
  -- the last printed code
  pub last : Option ℕ
  -- the number of orders obeyed
  pub orders : ℕ

-- the state of a cleared machine: 0 everywhere, no tape, nothing printed
abbrev pub cleared_state : Size → State
cleared_state z = record {
  size = z;
  store = cleared_cells;
  acc = 0;
  multiplier = 0;
  counter = 0;
  tape = [];
  last = None;
  orders = 0;
}
