-- What holds of every tape in parts.
use Rattle.std.specs.Prelude.{ℕ, ◌≡◌, ◌≢◌, List, []}
use Rattle.ed_words.specs.declared.size.Size.{Size}
use Rattle.ed_codes.specs.Reading.{reading, rows}
use Rattle.ed_store.specs.Cells.{IsStore}
use Rattle.ed_machine.specs.State.{State}
use Rattle.ed_machine.specs.Sound.{IsSound}
use Rattle.ed_machine.specs.Steps.{progress, state_after}
use Rattle.ed_machine.specs.declared.ending.Ending.{Ending}
use Rattle.ed_run.specs.Run.{EndsAfter}
use Rattle.ed_notation.specs.Faults.{TapeEntry}
use Rattle.ed_initial.specs.Entry.{IsStarted, at_entry, first_state}
use Rattle.ed_interlude.specs.Returned.{IsReturned}
use Rattle.ed_interlude.specs.declared.tape.PartsEnd.TheVariants.{Ended}
use Rattle.ed_interlude.specs.Parts.{LeadsTo, TapePart, IsReportOfTape, PartsReport, part_entry_state, programs_printed}

-- there is exactly one report on a tape
pub record HasOneReport (limit : ℕ) (s : State) : Type 0 where
  pub some : (t : PartsReport) × IsReportOfTape limit s t
  pub once : (t u : PartsReport) → IsReportOfTape limit s t → IsReportOfTape limit s u → t ≡ u

-- the same for every tape
abbrev pub EachTapeHasOneReport : Type 0
EachTapeHasOneReport = (limit : ℕ) (s : State) → HasOneReport limit s

-- a part begins at Start or at a return
pub record Begins (p : TapePart) : Type 0 where
  pub store : IsStore p.state.store
  pub first : p.number ≡ 1 → IsStarted p.state
  pub further : p.number ≢ 1 → IsReturned p.state

-- the Initial Orders lead the part to the state at its entry, cell by cell, and print nothing on the way
pub record IsEntryReached (p : TapePart) (e : TapeEntry) : Type 0 where
  pub state_is : part_entry_state p e ≡ at_entry p.state e
  pub silent : (progress e.cost p.state).codes ≡ []

-- the same for every part
abbrev pub EachEntryIsReached : Type 0
EachEntryIsReached = (p : TapePart) (e : TapeEntry) → Begins p → LeadsTo p e → IsEntryReached p e

-- the run of the whole tape, which is never resumed and whose paper is never full, has this ending and this last state,
-- and prints these codes
pub record EndsAsRun (limit : ℕ) (s : State) (ending : Ending) (last : State) (codes : List ℕ) : Type 0 where
  pub orders : ℕ
  pub ends : EndsAfter limit 0 limit s orders ending
  pub state_is : last ≡ state_after orders s
  pub prints : (progress orders s).codes ≡ codes

-- if the parts of a tape end by the ending of a run, the run of the whole tape ends the same way and prints what the
-- programs print, one after the other
abbrev pub EndsAsParts : ℕ → State → Type 0
EndsAsParts limit s =
    (t : PartsReport) (ending : Ending) (tells : IsReportOfTape limit s t) → t.end ≡ Ended ending
    → EndsAsRun limit s ending t.last (programs_printed tells)

-- the same for every text of a tape, on a cleared machine that is started on its rows; and for every state at Start
-- that is within the bounds of a machine
pub record EachEndIsTheRuns : Type 0 where
  pub of_text : (limit : ℕ) (z : Size) (text codes : List ℕ) → reading text ≡ rows codes
      → EndsAsParts limit (first_state z codes)
  pub from_start : (limit : ℕ) (s : State) → IsSound s → IsStarted s → EndsAsParts limit s
