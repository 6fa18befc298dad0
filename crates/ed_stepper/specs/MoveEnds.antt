-- When a move of a session ends (this project's own rules). The ends are tested in this order: a stop, the move's own
-- end, the limit, an order that can't be obeyed.
use Rattle.std.specs.Prelude.{ℕ, zero, suc, Bool, true, false, ◌&&◌, nat_eq}
use Rattle.std.specs.Prelude.{if◌then◌else◌, Option, Some, None, is_some, unwrap_or}
use Rattle.ed_machine.specs.State.{State}
use Rattle.ed_machine.specs.OrderTable.{step}
use Rattle.ed_machine.specs.Steps.{IsFirstAnswer, is_stop, least, state_after}
use Rattle.ed_machine.specs.declared.turn.Turn.{Turn}
use Rattle.ed_machine.specs.declared.turn.Turn.TheVariants.{NoOrder as TurnNoOrder, NoTape as TurnNoTape}
use Rattle.ed_initial.specs.Load.{enters}
use Rattle.ed_stepper.specs.declared.moves.MoveEnd.{MoveEnd}
use Rattle.ed_stepper.specs.declared.moves.MoveEnd.TheVariants.{Went, There, Entered, Stopped, NoOrder, NoTape, Limit}
use Rattle.ed_stepper.specs.declared.moves.MoveTarget.{MoveTarget}
use Rattle.ed_stepper.specs.declared.moves.MoveTarget.TheVariants.{Orders, Address, Entry}

-- whether the last of k orders from a state was a stop
abbrev pub stopped_after : ℕ → State → Bool
stopped_after zero s = false
stopped_after (suc k) s = is_stop (step (state_after k s)).turn

-- whether the last of k orders from a state entered a program: an E order at 22 jumped
abbrev pub entered_after : ℕ → State → Bool
entered_after zero s = false
entered_after (suc k) s = enters (state_after k s)

-- whether at least one order was obeyed
abbrev pub is_some_order : ℕ → Bool
is_some_order zero = false
is_some_order (suc k) = true

-- a move's own end after k orders from a state, if it has been reached
abbrev pub own_end : MoveTarget → ℕ → State → Option MoveEnd
own_end (Orders n) k s = if nat_eq k n then Some Went else None
own_end (Address a) k s = if is_some_order k && nat_eq (state_after k s).counter a then Some There else None
own_end Entry k s = if entered_after k s then Some Entered else None

-- the end before an order that can't be obeyed
abbrev pub blocked_end : Turn → Option MoveEnd
blocked_end (TurnNoOrder function) = Some NoOrder
blocked_end TurnNoTape = Some NoTape
blocked_end turn = None

-- the first of two ends, if it is there, else the second
abbrev pub or_else : Option MoveEnd → Option MoveEnd → Option MoveEnd
or_else None other = other
or_else (Some end) other = Some end

-- how a move ends after k orders, if it does, when `left` orders are left before the limit
abbrev pub end_after : MoveTarget → ℕ → ℕ → State → Option MoveEnd
end_after aim left k s =
    if stopped_after k s then Some Stopped
    else or_else (own_end aim k s) (if nat_eq k left then Some Limit else blocked_end (step (state_after k s)).turn)

-- a move from a state ends with this end after k orders, and not before
abbrev pub Ends : MoveTarget → ℕ → State → ℕ → MoveEnd → Type 0
Ends aim left s k end = IsFirstAnswer (λ j. end_after aim left j s) k end

-- the number of orders that a move obeys: the least number after which it ends, at most `left`
unfoldable pub move_orders : MoveTarget → ℕ → State → ℕ
move_orders aim left s = least (λ j. is_some (end_after aim left j s)) left

-- the end of a move
unfoldable pub move_end : MoveTarget → ℕ → State → MoveEnd
move_end aim left s = unwrap_or (end_after aim left (move_orders aim left s) s) Limit
