-- The program's answers to a tape of Initial Orders 1 (this project's own rules).
use Rattle.std.specs.Prelude.{◌≡◌, ◌⊎◌, ℕ, [], List}
use Rattle.ed_words.specs.declared.size.Size.TheVariants.{Full}
use Rattle.ed_machine.specs.State.{State, cleared_state}
use Rattle.ed_machine.specs.Start.{start_state}
use Rattle.ed_run.specs.Run.{RunEnd, run_end}
use Rattle.ed_run.specs.declared.settings.Settings.{Settings}
use Rattle.ed_initial1.specs.Listing.{first_orders}
use Rattle.ed_initial1.specs.Faults.{Tape, ReachesEntry1, IsFault1}
use Rattle.ed_initial1.specs.Checks.{report1}
use Rattle.ed_initial1.specs.declared.cause.Tape1Cause.{Tape1Cause}
use Rattle.ed_report.specs.FirstNotes.{rule1_line}
use Rattle.ed_tapes.specs.Answer.{Answer, exactly, of_rows}
use Rattle.ed_tapes.specs.Outcome.{Outcome, done, refusal}
use Rattle.ed_tapes.specs.Runs.{paper_room, ran_outcome}
use Rattle.ed_report.specs.Entries.{entry_line}

-- a cleared machine of full size, started on rows with Initial Orders 1
unfoldable pub first_state1 : List ℕ → State
first_state1 codes = start_state first_orders codes (cleared_state Full)

-- the run of rows from there
abbrev pub run1_of : Settings → List ℕ → RunEnd
run1_of s codes = run_end s.limit s.resumes paper_room (first_state1 codes)

-- `tape1`: the run of the rows
abbrev pub tape1_outcome : Settings → List ℕ → Outcome
tape1_outcome s codes = ran_outcome [] (run1_of s codes)

-- the answer of `tape1`
abbrev pub tape1_answer : Settings → Answer
tape1_answer s = of_rows (exactly (tape1_outcome s))

-- `check-tape1` for a tape without a fault: its program, which is entered at 31
pub record OfProgram (codes : List ℕ) (o : Outcome) : Type 0 where
  pub tape : Tape
  pub comes : ReachesEntry1 codes tape
  pub outcome : done (entry_line 31 (report1 tape).orders (report1 tape).rows) ≡ o

-- `check-tape1` for a tape with a fault
pub record OfFirstFault (codes : List ℕ) (o : Outcome) : Type 0 where
  pub row : ℕ
  pub cause : Tape1Cause
  pub fault : IsFault1 codes row cause
  pub outcome : refusal (rule1_line row cause) ≡ o

-- `check-tape1`
abbrev pub IsChecked1 : List ℕ → Outcome → Type 0
IsChecked1 codes o = OfProgram codes o ⊎ OfFirstFault codes o

-- the answer of `check-tape1`
abbrev pub check_tape1_answer : Answer
check_tape1_answer = of_rows IsChecked1
