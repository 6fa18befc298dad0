-- Facts of the notation of tapes (this project's own rules): what blank tape before a tape changes, that no tape is one
-- for both loaders, and what loading costs at most.
use Rattle.std.specs.Prelude.{◌≡◌, ℕ, ◌+◌, ◌*◌, ◌/◌, ◌%◌, ◌≤◌, nat_eq, if◌then◌else◌, List, [], ◌∷◌, ◌++◌}
use Rattle.std.specs.Prelude.{length, replicate}
use Rattle.ed_words.specs.Texts.{Text}
use Rattle.ed_words.specs.declared.size.Size.{Size}
use Rattle.ed_codes.specs.Reading.{reading, rows}
use Rattle.ed_store.specs.Cells.{cleared_cells}
use Rattle.ed_run.specs.Run.{RunEnd}
use Rattle.ed_run.specs.declared.settings.Settings.{Settings}
use Rattle.ed_notation.specs.Items.{AreDigits, digits_number}
use Rattle.ed_notation.specs.Faults.{TapeEntry, RowsReachEntry, WellFormed}
use Rattle.ed_initial1.specs.Faults.{Tape, ReachesEntry1}
use Rattle.ed_tapes.specs.declared.input.TheConstants.{INPUT_BYTES}
use Rattle.ed_laws.specs.Limits.{with_limit}
use Rattle.ed_tapes.specs.Runs.{run_of}
use Rattle.ed_tapes.specs.Tapes.{opening_notation}

-- ---- blank tape before a tape

-- m blank rows and P K
abbrev pub blank_tape : ℕ → List ℕ
blank_tape m = replicate m 16 ++ (0 ∷ 14 ∷ [])

-- the number of orders that read them: 20 for each two blanks, and 22 for P K, or 31 for a last blank and P K
abbrev pub blank_cost : ℕ → ℕ
blank_cost m = 20 * (m / 2) + (if nat_eq (m % 2) 0 then 22 else 31)

-- the rows begin with T n K G K, n at most 1023
pub record BeginsAtPlace (tape : List ℕ) : Type 0 where
  pub digits : List ℕ
  pub rest : List ℕ
  pub are_digits : AreDigits digits
  pub fits : digits_number 0 digits ≤ 1023
  pub rows_are : tape ≡ 5 ∷ digits ++ (14 ∷ 27 ∷ 14 ∷ rest)

-- the same entry, m + 2 rows and the orders that read them later
abbrev pub entry_later : ℕ → TapeEntry → TapeEntry
entry_later m e = record e { cost = e.cost + blank_cost m; rows = e.rows + (m + 2) }

-- the same end of a run, k orders later
abbrev pub end_later : ℕ → RunEnd → RunEnd
end_later k r = record r { state = record r.state { orders = r.state.orders + k } }

-- the tape after blank tape reaches the same entry later. With a limit that is as much greater its run ends in the
-- same way, prints the same, and leaves the same state, with the greater count of orders.
pub record BlankTapeIsPassed (s : Settings) (tape : List ℕ) (e : TapeEntry) (m : ℕ) : Type 0 where
  pub well : WellFormed s.size cleared_cells.words opening_notation (blank_tape m ++ tape)
  pub comes : RowsReachEntry cleared_cells.words opening_notation 9 (blank_tape m ++ tape) (entry_later m e)
  pub runs : e.cost ≤ s.limit
      → run_of (with_limit (s.limit + blank_cost m) s) (blank_tape m ++ tape) ≡ end_later (blank_cost m) (run_of s tape)

-- ---- the law

-- all that holds of the notation
pub record NotationFacts : Type 0 where
  -- blank tape of any length may come before a well-formed tape that begins with T n K G K
  pub after_blanks : (s : Settings) (tape : List ℕ) (e : TapeEntry) (m : ℕ)
      → WellFormed s.size cleared_cells.words opening_notation tape
      → RowsReachEntry cleared_cells.words opening_notation 9 tape e
      → BeginsAtPlace tape → BlankTapeIsPassed s tape e m
  -- no tape is without a fault for both loaders
  pub for_one_loader : (z : Size) (tape : List ℕ) (t : Tape) → ReachesEntry1 tape t
      → WellFormed z cleared_cells.words opening_notation tape → ⊥
  -- a text that may be the input of the program costs at most 4,456,457 orders
  pub cheap : (text : Text) (tape : List ℕ) (e : TapeEntry) → reading text ≡ rows tape → length text ≤ INPUT_BYTES
      → RowsReachEntry cleared_cells.words opening_notation 9 tape e → e.cost ≤ 4456457
