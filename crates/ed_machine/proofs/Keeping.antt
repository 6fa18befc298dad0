-- What orders keep: the size of a machine, no new row on its tape, and how many orders are counted.
use Rattle.ed_machine.proofs.Names.{rules, suc, zero, Kind, arith, false, length, Option, refl, true, ℕ}
use Rattle.ed_machine.proofs.Names.{◌+◌, ◌≡◌, ◌≤◌, obey_word, Obeyed, step, State, is_obeyed}
use Rattle.ed_machine.proofs.Names.{progress, state_after}

-- a state reached by at most a number of orders
pub record Follows (most : ℕ) (s t : State) : Type 0 where
  pub size_is : t.size ≡ s.size
  pub fewer : length t.tape ≤ length s.tape
  pub later : s.orders ≤ t.orders
  pub soon : t.orders ≤ s.orders + most

-- the state that one order leaves: the order is counted if it was obeyed, and changes nothing otherwise
pub record Leaves (s : State) (o : Obeyed) : Type 0 where
  pub follows : Follows 1 s o.state
  pub count : is_obeyed o.turn ≡ true → o.state.orders ≡ s.orders + 1
  pub blocked : is_obeyed o.turn ≡ false → o.state ≡ s

-- a word that is obeyed as an order
pub word_leaves : (k : Option Kind) (w : ℕ) (s : State) → Leaves s (obey_word k w s)
word_leaves k w s = search rules

-- one step
pub step_leaves : (s : State) → Leaves s (step s)
unfolding step
step_leaves s = word_leaves _ _ s

-- any number of them
pub steps_follow : (k : ℕ) (s : State) → Follows k s (state_after k s)
unfolding progress
steps_follow zero s = record { size_is = refl; fewer = omega arith; later = omega arith; soon = omega arith }
steps_follow (suc k) s = search (rules, step_leaves, (steps_follow k s))
