-- What holds of every well-formed tape: it leads to the entry that `check-tape` reports, and its run is the run from
-- there (this project's own rules).
use Rattle.std.specs.Prelude.{◌≡◌, ℕ, ◌-◌, ◌<◌, ◌≤◌, List, [], ◌++◌, codes}
use Rattle.ed_store.specs.Cells.{cleared_cells}
use Rattle.ed_machine.specs.State.{State}
use Rattle.ed_machine.specs.Steps.{progress, state_after}
use Rattle.ed_run.specs.Run.{run_end}
use Rattle.ed_run.specs.declared.settings.Settings.{Settings}
use Rattle.ed_notation.specs.Faults.{TapeEntry, RowsReachEntry, WellFormed}
use Rattle.ed_initial.specs.Entry.{at_entry, first_state}
use Rattle.ed_report.specs.Entries.{entry_line}
use Rattle.ed_stepper.specs.Scripts.{line_of_move, move_line, after_move}
use Rattle.ed_stepper.specs.declared.moves.MoveTarget.TheVariants.{Entry}
use Rattle.ed_stepper.specs.declared.moves.MoveEnd.TheVariants.{Entered}
use Rattle.ed_stepper.specs.Traces.{trace_to}
use Rattle.ed_laws.specs.FirstFaults.{silent_outcome}
use Rattle.ed_laws.specs.Limits.{StartsWith, with_limit}
use Rattle.ed_tapes.specs.Outcome.{Outcome, done}
use Rattle.ed_tapes.specs.Tapes.{IsChecked, opening_notation, tape_outcome}
use Rattle.ed_tapes.specs.Runs.{paper_room, ran_outcome, with_post_mortem}
use Rattle.ed_streams.specs.Parts.{IsInParts}
use Rattle.ed_top.specs.Scripts.{stand_on}
use Rattle.ed_streams.specs.Traces.{letters_in, trace_outcome, traced_from}
use Rattle.ed_laws.specs.CutRuns.{IsCutOff, limit_state}

-- the state at the entry of a tape on a cleared machine
abbrev pub tape_state : Settings → List ℕ → TapeEntry → State
tape_state s codes e = at_entry (first_state s.size codes) e

-- the trace of the run from there, with the limit less the cost
abbrev pub traced_on : Settings → List ℕ → TapeEntry → Outcome
traced_on s codes e = traced_from (with_limit (s.limit - e.cost) s) (tape_state s codes e)

-- `trace` writes the letters of the orders that load the tape, and then those of the run from the entry; it ends as
-- that run does
pub record TracesFromEntry (s : Settings) (codes : List ℕ) (e : TapeEntry) : Type 0 where
  pub letters : letters_in (trace_outcome s codes).out
      ≡ letters_in (trace_to e.cost (first_state s.size codes)) ++ letters_in (traced_on s codes e).out
  pub note_is : (trace_outcome s codes).note ≡ (traced_on s codes e).note
  pub status_is : (trace_outcome s codes).status ≡ (traced_on s codes e).status

-- a session that moves to the entry gets there after as many orders as the tape costs, and reports so
pub record StepsToEntry (s : Settings) (codes : List ℕ) (e : TapeEntry) : Type 0 where
  pub stands : after_move Entry (stand_on s codes) ≡ record (stand_on s codes) { done = e.cost }
  pub line : line_of_move Entry (stand_on s codes) ≡ move_line e.at e.cost Entered

-- `parts` writes the line of `check-tape` first; if the limit comes before the entry it writes nothing, with the note
-- and the status of `tape`
pub record PartsFromEntry (s : Settings) (rows : List ℕ) (e : TapeEntry) (o : Outcome) : Type 0 where
  pub begins : e.cost ≤ s.limit → StartsWith o.out (entry_line e.at e.cost e.rows)
  pub short : s.limit < e.cost → o ≡ silent_outcome (codes "limit") (limit_state s rows).counter s.limit 4

-- `check-tape` reports the entry, its cost and its rows. The tape leads a cleared machine to the state at that entry,
-- at that cost and with nothing printed. With a limit not below the cost, the answer of `tape` is the run from that
-- state with the limit less the cost; with a lower limit the run ends at its limit and prints nothing, and a
-- post-mortem is that of its state. `trace` and `step` reach that entry as `tape` does, and `parts` reports it first.
pub record TapeRunsFromEntry (s : Settings) (codes : List ℕ) (e : TapeEntry) : Type 0 where
  pub checked : IsChecked s codes (done (entry_line e.at e.cost e.rows))
  pub enters : state_after e.cost (first_state s.size codes) ≡ tape_state s codes e
  pub silent : (progress e.cost (first_state s.size codes)).codes ≡ []
  pub runs : e.cost ≤ s.limit → tape_outcome s codes
      ≡ ran_outcome []
      (with_post_mortem s.post_mortem (run_end (s.limit - e.cost) s.resumes paper_room (tape_state s codes e)))
  pub short : s.limit < e.cost → IsCutOff s codes (tape_outcome s codes)
  pub traced : e.cost ≤ s.limit → TracesFromEntry s codes e
  pub stepped : e.cost ≤ s.limit → StepsToEntry s codes e
  pub in_parts : (o : Outcome) → IsInParts s codes o → PartsFromEntry s codes e o

-- the same for every tape that is well formed from a cleared store, and the entry that it reaches
abbrev pub EachTapeRunsFromEntry : Type 0
EachTapeRunsFromEntry =
    (s : Settings) (codes : List ℕ) (e : TapeEntry) → WellFormed s.size cleared_cells.words opening_notation codes
    → RowsReachEntry cleared_cells.words opening_notation 9 codes e → TapeRunsFromEntry s codes e
