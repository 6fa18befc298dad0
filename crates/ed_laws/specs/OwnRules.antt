-- Which runs rest on rules for orders that are this project's own: a run without these orders doesn't.
use Rattle.std.specs.Prelude.{◌≡◌, ◌⊎◌, ℕ, zero, suc, ◌+◌, ◌<◌, ◌≤◌, Bool, false, ◌||◌, ◌==◌}
use Rattle.std.specs.Prelude.{nat_eq, nat_le, nat_lt, if◌then◌else◌, Option, Some, is_some, unwrap_or}
use Rattle.std.specs.Prelude.{List, [], ◌∷◌, ◌++◌, length}
use Rattle.std.specs.List.{list_any}
use Rattle.ed_words.specs.Words.{function_of}
use Rattle.ed_codes.specs.Spelling.{byte_of}
use Rattle.ed_printer.specs.Paper.{paper_from}
use Rattle.ed_printer.specs.declared.printer.Shift.{Shift}
use Rattle.ed_machine.specs.State.{State}
use Rattle.ed_machine.specs.OrderTable.{Obeyed, next_word, step}
use Rattle.ed_machine.specs.Steps.{Progress, codes_of, least, progress, state_after, stops_of}
use Rattle.ed_machine.specs.declared.ending.Ending.{Ending}
use Rattle.ed_machine.specs.declared.ending.Ending.TheVariants.{Stopped, Limit}
use Rattle.ed_run.specs.Run.{RunEnd, end_by, run_end, run_orders}
use Rattle.ed_run.specs.declared.settings.Settings.{Settings}
use Rattle.ed_initial.specs.Entry.{first_state}
use Rattle.ed_tapes.specs.Runs.{paper_room, run_of}
use Rattle.ed_stepper.specs.Traces.{trace_to}
use Rattle.ed_streams.specs.Traces.{letters_in}

-- ---- a machine whose orders do something else

-- where k steps lead, if this is what a step does
unfoldable pub progress_with : (State → Obeyed) → ℕ → State → Progress
progress_with other zero s = record { state = s; codes = []; stops = 0 }
progress_with other (suc k) s = record {
  state = (other (progress_with other k s).state).state;
  codes = (progress_with other k s).codes ++ codes_of (other (progress_with other k s).state).turn;
  stops = (progress_with other k s).stops + stops_of (other (progress_with other k s).state).turn;
}

-- how the run of such steps ends after k orders, if it does: as every run does
abbrev pub end_with : (State → Obeyed) → ℕ → ℕ → ℕ → ℕ → Progress → Option Ending
end_with other limit resumes room k p =
    if nat_lt resumes p.stops then Some Stopped
    else if nat_eq k limit then Some Limit
    else end_by (other p.state).turn (nat_le room (length p.codes))

-- the run
unfoldable pub run_with : (State → Obeyed) → ℕ → ℕ → ℕ → State → RunEnd
run_with other limit resumes room s =
    let k = least (λ j. is_some (end_with other limit resumes room j (progress_with other j s))) limit in
    record {
      ending = unwrap_or (end_with other limit resumes room k (progress_with other k s)) Limit;
      state = (progress_with other k s).state;
      codes = (progress_with other k s).codes;
    }

-- ---- rules of this project

-- the letter F (70) or X (88)
abbrev pub is_own_letter : ℕ → Bool
is_own_letter byte = byte == 70 || byte == 88

-- the next order is F or X: its function is spelled by this letter
abbrev pub is_own_order : State → Bool
is_own_order s = is_own_letter (byte_of (function_of (next_word s)) false)

-- the letters of the orders that the run of rows obeys
abbrev pub run_letters : Settings → List ℕ → List ℕ
run_letters s rows =
    let start = first_state s.size rows in
    letters_in (trace_to (run_orders s.limit s.resumes paper_room start) start)

-- ---- the law

-- whatever else steps do: if they do the same before each of k orders they lead to the same, and a run before each of
-- whose orders, and at whose end, they do the same is the same. In particular the run of a tape whose trace has no
-- letter F and no letter X is the same whatever these two orders do. What is printed after a shift doesn't depend on the
-- shift at the beginning.
pub record EachOwnRuleShows : Type 0 where
  pub orders : (other : State → Obeyed) (k : ℕ) (s : State)
      → ((j : ℕ) → j < k → other (state_after j s) ≡ step (state_after j s))
      → progress_with other k s ≡ progress k s
  pub runs : (other : State → Obeyed) (limit resumes room : ℕ) (s : State)
      → ((j : ℕ) → j ≤ run_orders limit resumes room s → other (state_after j s) ≡ step (state_after j s))
      → run_with other limit resumes room s ≡ run_end limit resumes room s
  pub tapes : (other : State → Obeyed) (s : Settings) (rows : List ℕ)
      → ((t : State) → is_own_order t ≡ false → other t ≡ step t)
      → list_any is_own_letter (run_letters s rows) ≡ false
      → run_with other s.limit s.resumes paper_room (first_state s.size rows) ≡ run_of s rows
  pub shifts : (before after : Shift) (code : ℕ) (codes : List ℕ) → (code ≡ 11) ⊎ (code ≡ 15)
      → paper_from before (code ∷ codes) ≡ paper_from after (code ∷ codes)
