-- What holds of every run.
use Rattle.std.specs.Prelude.{◌≡◌, ℕ, suc, ◌-◌, ◌<◌, ◌≤◌, nat_le, Some, length}
use Rattle.ed_machine.specs.State.{State}
use Rattle.ed_machine.specs.OrderTable.{step}
use Rattle.ed_machine.specs.Steps.{AreObeyed, progress, state_after}
use Rattle.ed_machine.specs.declared.ending.Ending.{Ending}
use Rattle.ed_machine.specs.declared.ending.Ending.TheVariants.{Stopped, Limit}
use Rattle.ed_machine.specs.declared.turn.Turn.TheVariants.{Went, Stopped as Stops}
use Rattle.ed_run.specs.Run.{EndsAfter, end_by, run_orders, run_end}

-- each of the first k orders neither prints nor stops
abbrev pub AllWent : ℕ → State → Type 0
AllWent k s = (j : ℕ) → j < k → (step (state_after j s)).turn ≡ Went

-- the first k orders are obeyed, and there is room for what they print
pub record HasRoom (room k : ℕ) (s : State) : Type 0 where
  pub obeyed : AreObeyed k s
  pub printed : length (progress k s).codes ≤ room

-- Every run has exactly one ending, after exactly one number of orders. It ends at the limit if all orders up to it
-- are obeyed, at an order that can't be obeyed if that comes first, and at the stop for which no resume is left. A run
-- whose first k orders neither print nor stop is the run from the state after them, with a limit less by k.
pub record RunLaw : Type 0 where
  pub ends : (limit resumes room : ℕ) (s : State)
      → EndsAfter limit resumes room s (run_orders limit resumes room s) (run_end limit resumes room s).ending
  pub once : (limit resumes room : ℕ) (s : State) (j k : ℕ) (d e : Ending)
      → EndsAfter limit resumes room s j d → EndsAfter limit resumes room s k e → (j ≡ k) × (d ≡ e)
  pub at_limit : (limit resumes room : ℕ) (s : State) → HasRoom room limit s → (progress limit s).stops ≤ resumes
      → EndsAfter limit resumes room s limit Limit
  pub at_block : (limit resumes room k : ℕ) (s : State) (e : Ending) → HasRoom room k s → (progress k s).stops ≤ resumes
      → k < limit
      → end_by (step (state_after k s)).turn (nat_le room (length (progress k s).codes)) ≡ Some e
      → EndsAfter limit resumes room s k e
  pub at_stop : (limit resumes room j : ℕ) (s : State) → HasRoom room (suc j) s → (progress j s).stops ≡ resumes
      → suc j ≤ limit
      → (step (state_after j s)).turn ≡ Stops → EndsAfter limit resumes room s (suc j) Stopped
  pub later : (limit resumes room k : ℕ) (s : State) → AllWent k s → k ≤ limit
      → run_end limit resumes room s ≡ run_end (limit - k) resumes room (state_after k s)
