-- A run of the machine: when it ends, how, and what it printed (which end comes first, the limit, the resumes and the
-- paper are this project's own rules).
use Rattle.std.specs.Prelude.{◌≡◌, ℕ, ◌-◌, Bool, true, false, nat_eq, nat_lt, nat_le}
use Rattle.std.specs.Prelude.{if◌then◌else◌, Option, Some, None, is_some, unwrap_or, List, ◌++◌, length}
use Rattle.ed_machine.specs.State.{State}
use Rattle.ed_machine.specs.OrderTable.{step}
use Rattle.ed_machine.specs.Steps.{IsFirstAnswer, Progress, least, progress}
use Rattle.ed_machine.specs.Sheet.{Sheet}
use Rattle.ed_machine.specs.declared.turn.Turn.{Turn}
use Rattle.ed_machine.specs.declared.turn.Turn.TheVariants.{Printed, NoOrder as IsNoOrder, NoTape as HasNoTape}
use Rattle.ed_machine.specs.declared.ending.Ending.{Ending}
use Rattle.ed_machine.specs.declared.ending.Ending.TheVariants.{Stopped, Limit, NoOrder, NoTape, PaperFull}

-- whether a turn prints
abbrev pub prints : Turn → Bool
prints (Printed code) = true
prints turn = false

-- how the next order ends a run, if it does: a word that is not an order, no row left on the tape, or the paper full
abbrev pub end_by : Turn → Bool → Option Ending
end_by (IsNoOrder function) full = Some NoOrder
end_by HasNoTape full = Some NoTape
end_by (Printed code) full = if full then Some PaperFull else None
end_by turn full = None

-- how a run ends after k orders, if it does: more stops than resumes, else the limit, else the next order
abbrev pub end_at : ℕ → ℕ → ℕ → ℕ → Progress → Option Ending
end_at limit resumes room k p =
    if nat_lt resumes p.stops then Some Stopped
    else if nat_eq k limit then Some Limit
    else end_by (step p.state).turn (nat_le room (length p.codes))

-- a run from a state ends with this ending after k orders, and not before
abbrev pub EndsAfter : ℕ → ℕ → ℕ → State → ℕ → Ending → Type 0
EndsAfter limit resumes room s k ending = IsFirstAnswer (λ j. end_at limit resumes room j (progress j s)) k ending

-- a run from a state onto a sheet of paper: its ending, the state that it leaves, and the sheet with its codes added
pub record IsRun (limit resumes : ℕ) (s : State) (sheet : Sheet) (ending : Ending) (last : State) (full : Sheet) :
    Type 0 where
  pub orders : ℕ
  pub ends : EndsAfter limit resumes (sheet.room - length sheet.codes) s orders ending
  pub state_is : last ≡ (progress orders s).state
  pub sheet_is : full ≡ record { codes = sheet.codes ++ (progress orders s).codes; room = sheet.room }

-- the number of orders that a run obeys: the least number after which it ends, at most the limit
abbrev pub run_orders : ℕ → ℕ → ℕ → State → ℕ
run_orders limit resumes room s = least (λ j. is_some (end_at limit resumes room j (progress j s))) limit

-- the result of a run
pub record RunEnd : Type 0 where
  pub ending : Ending
  pub state : State
  pub codes : List ℕ

-- a run as a function
unfoldable pub run_end : ℕ → ℕ → ℕ → State → RunEnd
run_end limit resumes room s =
    let k = run_orders limit resumes room s in
    record {
      ending = unwrap_or (end_at limit resumes room k (progress k s)) Limit;
      state = (progress k s).state;
      codes = (progress k s).codes;
    }

-- the ending, the state and the sheet with its codes added are those of a run
pub record RunLeaves (r : RunEnd) (sheet : Sheet) (ending : Ending) (last : State) (full : Sheet) : Type 0 where
  pub ending_is : ending ≡ r.ending
  pub state_is : last ≡ r.state
  pub sheet_is : full ≡ record { codes = sheet.codes ++ r.codes; room = sheet.room }
