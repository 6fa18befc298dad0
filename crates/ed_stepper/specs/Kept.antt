-- What a session keeps.
use Rattle.std.specs.Prelude.{ℕ, ◌≡◌, ◌+◌, ◌^◌, ◌≤◌, List}
use Rattle.std.specs.List.{All}
use Rattle.ed_machine.specs.State.{State}
use Rattle.ed_machine.specs.Steps.{AreObeyed, state_after}
use Rattle.ed_stepper.specs.declared.checkpoints.Checkpoint.{Checkpoint}

-- a copy of the machine is that of the state after `done` orders
pub record IsCheckpoint (start : State) (m : Checkpoint) : Type 0 where
  pub is : m.machine ≡ state_after m.done start
  pub count : m.machine.orders ≤ start.orders + m.done

-- each copy is right in this sense
abbrev pub AreCheckpoints : State → List Checkpoint → Type 0
AreCheckpoints start checkpoints = All (λ m. IsCheckpoint start m) checkpoints

-- the machine is in the state `done` orders after the start, each of them was obeyed, and each copy is right
pub record IsSession (start : State) (machine : State) (checkpoints : List Checkpoint) (limit done : ℕ) : Type 0 where
  pub is : machine ≡ state_after done start
  pub count : machine.orders ≤ start.orders + done
  pub free : AreObeyed done start
  pub kept : AreCheckpoints start checkpoints
  pub most : done ≤ limit
  pub room : start.orders + limit ≤ 2 ^ 63
