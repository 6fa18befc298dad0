-- The program's answers to a tape: its run, and its check (this project's own rules).
use Rattle.std.specs.Prelude.{◌≡◌, ◌⊎◌, ℕ, [], List}
use Rattle.ed_words.specs.declared.size.Size.{Size}
use Rattle.ed_store.specs.Cells.{cleared_cells}
use Rattle.ed_run.specs.declared.settings.Settings.{Settings}
use Rattle.ed_notation.specs.Fold.{NotationState}
use Rattle.ed_notation.specs.Openings.{opening}
use Rattle.ed_notation.specs.Faults.{TapeEntry, RowsReachEntry, IsFault, WellFormed}
use Rattle.ed_notation.specs.declared.cause.TapeCause.{TapeCause}
use Rattle.ed_report.specs.Entries.{entry_line}
use Rattle.ed_report.specs.Notes.{rule_line}
use Rattle.ed_tapes.specs.Answer.{Answer, exactly, of_rows}
use Rattle.ed_tapes.specs.Outcome.{Outcome, done, refusal}
use Rattle.ed_tapes.specs.Runs.{ran_outcome, run_of, with_post_mortem}

-- ---- runs

-- `tape`: the run of the rows, with the post-mortem that is requested
abbrev pub tape_outcome : Settings → List ℕ → Outcome
tape_outcome s codes = ran_outcome [] (with_post_mortem s.post_mortem (run_of s codes))

-- the answer of `tape`
abbrev pub tape_answer : Settings → Answer
tape_answer s = of_rows (exactly (tape_outcome s))

-- ---- checks

-- the state of the notation before the first row, on a cleared store
abbrev pub opening_notation : NotationState
opening_notation = opening cleared_cells.words

-- `check-tape` for a well-formed tape: the entry that the fold of its items reaches
pub record OfWellFormed (z : Size) (codes : List ℕ) (o : Outcome) : Type 0 where
  pub well : WellFormed z cleared_cells.words opening_notation codes
  pub entry : TapeEntry
  pub comes : RowsReachEntry cleared_cells.words opening_notation 9 codes entry
  pub outcome : done (entry_line entry.at entry.cost entry.rows) ≡ o

-- `check-tape` for a tape with a fault: the first one
pub record OfFaulty (z : Size) (codes : List ℕ) (o : Outcome) : Type 0 where
  pub row : ℕ
  pub cause : TapeCause
  pub fault : IsFault z cleared_cells.words opening_notation codes row cause
  pub outcome : refusal (rule_line row cause) ≡ o

-- `check-tape`
abbrev pub IsChecked : Settings → List ℕ → Outcome → Type 0
IsChecked s codes o = OfWellFormed s.size codes o ⊎ OfFaulty s.size codes o

-- the answer of `check-tape`
abbrev pub check_tape_answer : Settings → Answer
check_tape_answer s = of_rows (IsChecked s)
