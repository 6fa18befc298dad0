-- A run that its limit cuts off before the program is entered (this project's own rule).
use Rattle.std.specs.Prelude.{◌≡◌, ℕ, List, codes}
use Rattle.ed_machine.specs.State.{State}
use Rattle.ed_machine.specs.Steps.{state_after}
use Rattle.ed_run.specs.declared.settings.Settings.{Settings}
use Rattle.ed_initial.specs.Entry.{first_state}
use Rattle.ed_tapes.specs.Outcome.{Outcome}
use Rattle.ed_tapes.specs.Runs.{run_of}
use Rattle.ed_laws.specs.FaultyTapes.{quiet_outcome}

-- the state of the run of rows after as many orders as its limit
abbrev pub limit_state : Settings → List ℕ → State
limit_state s rows = state_after s.limit (first_state s.size rows)

-- the run of these rows ends in the state after as many orders as its limit. Its answer is the post-mortem alone, the
-- note `limit at C after K`, K the limit, and the status 4
pub record IsCutOff (s : Settings) (rows : List ℕ) (o : Outcome) : Type 0 where
  pub state_is : (run_of s rows).state ≡ limit_state s rows
  pub outcome : o ≡ quiet_outcome s rows (codes "limit") (limit_state s rows).counter s.limit 4
