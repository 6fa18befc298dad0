-- The number of a move's orders is the least after which an end holds.
use Rattle.ed_stepper.proofs.Kit.{is_some, first_once, first_within, State, rules, true, ℕ, ◌≡◌, ◌≤◌, end_after, Ends}
use Rattle.ed_stepper.proofs.Kit.{move_orders, left, Moves, Stand, stands_at, MoveEnd, Limit, MoveTarget, Orders, Moved}
use Rattle.ed_machine.proofs.LeastNumbers.{first_found}
use Rattle.ed_stepper.specs.MoveEnds.{move_end}

-- an end holds at the limit
limit_ends : (aim : MoveTarget) (left : ℕ) (s : State) → is_some (end_after aim left left s) ≡ true
limit_ends aim left s = search rules

-- no move obeys more orders than are left
pub within_left : {aim : MoveTarget} {s t : Stand} {m : Moved} (move : Moves aim s t m) → move.orders ≤ left s
within_left {aim} {s} move = first_within move.orders (left s) move.ends.first (limit_ends aim (left s) (stands_at s))

-- an end holds after n orders if the move is by n orders
own_ends : (n left : ℕ) (s : State) → is_some (end_after (Orders n) left n s) ≡ true
own_ends n left s = search rules

-- a move by n orders obeys at most n
pub at_most : {n : ℕ} {s t : Stand} {m : Moved} (move : Moves (Orders n) s t m) → move.orders ≤ n
at_most {n} {s} move = first_within move.orders n move.ends.first (own_ends n (left s) (stands_at s))

-- the move as a function ends this way
pub move_ends : (aim : MoveTarget) (left : ℕ) (s : State)
    → Ends aim left s (move_orders aim left s) (move_end aim left s)
unfolding move_orders move_end
move_ends aim left s = first_found left Limit (limit_ends aim left s)

-- so its orders are those of the function
pub orders_found : (aim : MoveTarget) (left k : ℕ) (s : State) (end : MoveEnd) → Ends aim left s k end
    → k ≡ move_orders aim left s
orders_found aim left k s end e = (first_once e (move_ends aim left s)).0

-- and its end
pub end_found : (aim : MoveTarget) (left k : ℕ) (s : State) (end : MoveEnd) → Ends aim left s k end
    → end ≡ move_end aim left s
end_found aim left k s end e = (first_once e (move_ends aim left s)).1
