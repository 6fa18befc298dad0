-- Many orders one after the other. A state in which no order can be obeyed stays the same, so any number of steps leads
-- to a state; `AreObeyed` says that each of them obeyed an order.
use Rattle.std.specs.Prelude.{◌≡◌, ℕ, zero, suc, ◌+◌, ◌<◌, List, [], ◌∷◌, ◌++◌, Bool, true, false, if◌then◌else◌}
use Rattle.std.specs.Prelude.{Option, Some, None}
use Rattle.ed_machine.specs.State.{State}
use Rattle.ed_machine.specs.OrderTable.{step}
use Rattle.ed_machine.specs.declared.turn.Turn.{Turn}
use Rattle.ed_machine.specs.declared.turn.Turn.TheVariants.{Printed, Stopped, NoOrder, NoTape}

-- the codes that a turn prints
abbrev pub codes_of : Turn → List ℕ
codes_of (Printed code) = code ∷ []
codes_of turn = []

-- how many stops a turn is: 1 or 0
abbrev pub stops_of : Turn → ℕ
stops_of Stopped = 1
stops_of turn = 0

-- whether a turn obeyed an order
abbrev pub is_obeyed : Turn → Bool
is_obeyed (NoOrder function) = false
is_obeyed NoTape = false
is_obeyed turn = true

-- whether a turn is a stop
abbrev pub is_stop : Turn → Bool
is_stop Stopped = true
is_stop turn = false

-- where a number of orders led: the state, the codes printed on the way, and how many of the orders were stops
pub record Progress : Type 0 where
  pub state : State
  pub codes : List ℕ
  pub stops : ℕ

-- the same after one more order
abbrev pub next_progress : Progress → Progress
next_progress p = record {
  state = (step p.state).state;
  codes = p.codes ++ codes_of (step p.state).turn;
  stops = p.stops + stops_of (step p.state).turn;
}

-- where k steps from a state lead
unfoldable pub progress : ℕ → State → Progress
progress zero s = record { state = s; codes = []; stops = 0 }
progress (suc k) s = next_progress (progress k s)

-- the state after k steps
abbrev pub state_after : ℕ → State → State
state_after k s = (progress k s).state

-- each of the first k steps was an order obeyed
abbrev pub AreObeyed : ℕ → State → Type 0
AreObeyed k s = (j : ℕ) → j < k → is_obeyed (step (state_after j s)).turn ≡ true

-- the least number below n for which a test holds, or n if it holds for none
unfoldable pub least : (ℕ → Bool) → ℕ → ℕ
least test zero = zero
least test (suc n) = if test (least test n) then least test n else suc n

-- a test that may give an answer after each number of orders gives this one after k of them, and none before
pub record IsFirstAnswer {A : Type 0} (test : ℕ → Option A) (k : ℕ) (answer : A) : Type 0 where
  pub now : test k ≡ Some answer
  pub first : (j : ℕ) → j < k → test j ≡ None
