-- How a load ends. The program is entered when the counter reaches 31. Before that, a turn that prints, stops or
-- cannot be obeyed, or too many orders, ends a load that is lost (this project's own rule).
use Rattle.std.specs.Prelude.{ℕ, suc, ◌≡◌, ◌<◌, Bool, false, nat_eq, Option}
use Rattle.ed_machine.specs.State.{State}
use Rattle.ed_machine.specs.OrderTable.{step}
use Rattle.ed_machine.specs.Steps.{state_after}
use Rattle.ed_machine.specs.declared.turn.Turn.TheVariants.{Went}
use Rattle.ed_initial.specs.Load.{EndsBy, Event, Enters, Sounds, event}
use Rattle.ed_initial1.specs.declared.loading.Loaded1.{Loaded1}
use Rattle.ed_initial1.specs.declared.loading.Loaded1.TheVariants.{Entered, Lost}

-- whether the counter is 31
abbrev pub at_31 : State → Bool
at_31 s = nat_eq s.counter 31

-- an order of a load that goes on: it neither prints nor stops, and the counter does not reach 31
pub record GoesOn1 (s : State) : Type 0 where
  pub went : (step s).turn ≡ Went
  pub stays : at_31 (step s).state ≡ false

-- each of the first k orders goes on
abbrev pub IsQuiet1 : ℕ → State → Type 0
IsQuiet1 k s = (j : ℕ) → j < k → GoesOn1 (state_after j s)

-- what the next order does to a load, or None if the load goes on
abbrev pub load1_end : State → Option Event
load1_end s = event (λ t. at_31 (step t).state) (λ t. false) s

-- the result of a load that an order ends after some others
abbrev pub load1_result : State → ℕ → Event → Loaded1
load1_result s before Enters = Entered (suc before)
load1_result s before Sounds = Lost (suc before)
load1_result s before event = Lost before

-- how a load from a state ends when it may take at most `bound` orders
abbrev pub EndsAs1 : State → ℕ → Loaded1 → Type 0
EndsAs1 s bound loaded = EndsBy load1_end load1_result s bound loaded

-- the number of orders of a load
abbrev pub orders_of1 : Loaded1 → ℕ
orders_of1 (Entered orders) = orders
orders_of1 (Lost orders) = orders
