-- A session and its moves (this project's own rules).
use Rattle.std.specs.Prelude.{ℕ, ◌≡◌, ◌+◌, ◌-◌, ◌≤◌, ◌<◌, Result, Ok, Err}
use Rattle.ed_machine.specs.State.{State}
use Rattle.ed_machine.specs.Steps.{state_after}
use Rattle.ed_stepper.specs.MoveEnds.{Ends, move_end, move_orders}
use Rattle.ed_stepper.specs.declared.moves.MoveTarget.{MoveTarget}
use Rattle.ed_stepper.specs.declared.moves.MoveEnd.TheVariants.{Back}
use Rattle.ed_stepper.specs.declared.moves.Moved.{Moved}
use Rattle.ed_stepper.specs.declared.moves.BackFault.{BackFault}
use Rattle.ed_stepper.specs.declared.moves.BackFault.TheVariants.{TooFar, Memory}

-- the state in which a session begins, the limit of its orders, and the number of orders obeyed so far
pub record Stand : Type 0 where
  pub start : State
  pub limit : ℕ
  pub done : ℕ

-- the state that a session has reached
abbrev pub stands_at : Stand → State
stands_at s = state_after s.done s.start

-- the number of orders left before the limit
abbrev pub left : Stand → ℕ
left s = s.limit - s.done

-- a move forward: it ends after the least number of orders after which an end holds, in the state after them
pub record Moves (aim : MoveTarget) (s t : Stand) (m : Moved) : Type 0 where
  pub orders : ℕ
  pub ends : Ends aim (left s) (stands_at s) orders m.end
  pub orders_are : orders ≡ move_orders aim (left s) (stands_at s)
  pub end_is : m.end ≡ move_end aim (left s) (stands_at s)
  pub done_is : m.done ≡ s.done + orders
  pub at_is : m.at ≡ (stands_at t).counter
  pub stand_is : t ≡ record s { done = m.done }

-- a move back by n orders, if n were obeyed; a refusal changes nothing
abbrev pub MovesBack : ℕ → Stand → Result Moved BackFault → Stand → Type 0
MovesBack n s (Ok m) t =
    (n ≤ s.done) × (m.done ≡ s.done - n) × (m.at ≡ (stands_at t).counter) × (m.end ≡ Back)
    × (t ≡ record s { done = m.done })
MovesBack n s (Err (TooFar done)) t = (s.done < n) × (done ≡ s.done) × (t ≡ s)
MovesBack n s (Err Memory) t = (n ≤ s.done) × (t ≡ s)
