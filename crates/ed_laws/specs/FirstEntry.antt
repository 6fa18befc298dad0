-- What holds of every tape without a fault for Initial Orders 1: it leads to the state at the entry, and the answer of
-- `tape1` is the run from there.
use Rattle.std.specs.Prelude.{◌≡◌, ℕ, ◌-◌, ◌<◌, ◌≤◌, List, []}
use Rattle.ed_machine.specs.Steps.{progress, state_after}
use Rattle.ed_run.specs.Run.{run_end}
use Rattle.ed_run.specs.declared.settings.Settings.{Settings}
use Rattle.ed_initial1.specs.Checks.{report1}
use Rattle.ed_initial1.specs.Entry.{at_entry1}
use Rattle.ed_initial1.specs.Faults.{Tape, ReachesEntry1}
use Rattle.ed_tapes.specs.FirstOrders.{first_state1, tape1_outcome}
use Rattle.ed_tapes.specs.Runs.{paper_room, ran_outcome}

-- the number of orders that load a tape
abbrev pub cost1 : Tape → ℕ
cost1 t = (report1 t).orders

-- the 31 orders lead a cleared machine to the state at the entry, at the tape's cost and with nothing printed. With a
-- limit not below the cost, the answer of `tape1` is the run from that state with the limit less the cost; with a lower
-- limit nothing is printed.
pub record RunsFrom31 (s : Settings) (codes : List ℕ) (t : Tape) : Type 0 where
  pub enters : state_after (cost1 t) (first_state1 codes) ≡ at_entry1 (first_state1 codes) t
  pub silent : (progress (cost1 t) (first_state1 codes)).codes ≡ []
  pub runs : cost1 t ≤ s.limit → tape1_outcome s codes
      ≡ ran_outcome [] (run_end (s.limit - cost1 t) s.resumes paper_room (at_entry1 (first_state1 codes) t))
  pub short : s.limit < cost1 t → (tape1_outcome s codes).out ≡ []

-- the same for every tape that gives a program
abbrev pub EachProgramRunsFrom31 : Type 0
EachProgramRunsFrom31 = (s : Settings) (codes : List ℕ) (t : Tape) → ReachesEntry1 codes t → RunsFrom31 s codes t
