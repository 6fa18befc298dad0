-- What holds of every tape of May 1949 without a fault (this project's own rules).
use Rattle.std.specs.Prelude.{◌≡◌, ℕ, ◌<◌, List, codes}
use Rattle.ed_machine.specs.Steps.{state_after}
use Rattle.ed_run.specs.declared.settings.Settings.{Settings}
use Rattle.ed_initial1.specs.Checks.{report1}
use Rattle.ed_initial1.specs.Faults.{Tape, ReachesEntry1}
use Rattle.ed_report.specs.Entries.{entry_line}
use Rattle.ed_laws.specs.FirstEntry.{RunsFrom31, cost1}
use Rattle.ed_laws.specs.FirstFaults.{silent_outcome}
use Rattle.ed_tapes.specs.FirstOrders.{IsChecked1, first_state1, tape1_outcome}
use Rattle.ed_tapes.specs.Outcome.{done}

-- `check-tape1` reports the entry at 31, its cost and its rows, and `tape1` runs from there. With a limit below the
-- cost nothing is printed, the note is `limit at C after K`, K the limit, and the status is 4.
pub record FirstTapeRunsFromEntry (s : Settings) (rows : List ℕ) (t : Tape) : Type 0 where
  pub checked : IsChecked1 rows (done (entry_line 31 (cost1 t) (report1 t).rows))
  pub runs : RunsFrom31 s rows t
  pub short : s.limit < cost1 t → tape1_outcome s rows
      ≡ silent_outcome (codes "limit") (state_after s.limit (first_state1 rows)).counter s.limit 4

-- the same for every tape that gives a program
abbrev pub EachFirstTapeRunsFromEntry : Type 0
EachFirstTapeRunsFromEntry =
    (s : Settings) (rows : List ℕ) (t : Tape) → ReachesEntry1 rows t → FirstTapeRunsFromEntry s rows t
