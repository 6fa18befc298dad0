-- The bounds that every state of a machine keeps, and how orders are counted.
use Rattle.std.specs.Prelude.{◌≡◌, ℕ, ◌+◌, ◌^◌, ◌<◌, slice_index}
use Rattle.ed_words.specs.Sizes.{locations}
use Rattle.ed_store.specs.Cells.{IsStore}
use Rattle.ed_machine.specs.State.{State}
use Rattle.ed_machine.specs.OrderTable.{last_code}
use Rattle.ed_machine.specs.Steps.{AreObeyed, state_after}

-- a state within its bounds: its words, its registers, its counter, the rows of its tape and its last code
pub record IsSound (s : State) : Type 0 where
  pub store : IsStore s.store
  pub acc : s.acc < 2 ^ 71
  pub multiplier : s.multiplier < 2 ^ 35
  pub counter : s.counter < locations s.size
  pub tape : (i : ℕ) → slice_index s.tape i < 32
  pub last : last_code s < 32

-- every step from a state within its bounds leads to a state within its bounds
abbrev pub StaysSound : Type 0
StaysSound = (k : ℕ) (s : State) → IsSound s → IsSound (state_after k s)

-- if each of k steps obeyed an order, the count of orders grew by k
abbrev pub CountsOrders : Type 0
CountsOrders = (k : ℕ) (s : State) → AreObeyed k s → (state_after k s).orders ≡ s.orders + k
