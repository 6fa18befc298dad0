-- The states that a machine can reach: by Start and by orders from a cleared machine, and in no other way.
use Rattle.std.specs.Prelude.{ℕ, ◌≤◌, List, length}
use Rattle.ed_words.specs.declared.size.Size.{Size}
use Rattle.ed_machine.specs.State.{State, cleared_state}
use Rattle.ed_machine.specs.Start.{start_state}
use Rattle.ed_machine.specs.Steps.{state_after}
use Rattle.ed_machine.specs.declared.machine.Parts.{Parts}

-- a cleared machine, a machine after Start with an image of at most 41 words, and a machine after k orders
pub data IsReached : State → Type 0 where
  clear : (z : Size) → IsReached (cleared_state z)
  start : (image rows : List ℕ) (s : State) → length image ≤ 41 → IsReached s → IsReached (start_state image rows s)
  obey : (k : ℕ) (s : State) → IsReached s → IsReached (state_after k s)

-- the state of a machine that has these parts
abbrev pub state_of : Parts → State
state_of p = record {
  size = p.size;
  store = p.store;
  acc = p.acc;
  multiplier = p.multiplier;
  counter = p.counter;
  tape = p.tape.items;
  last = p.last;
  orders = p.orders;
}
