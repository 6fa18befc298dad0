-- How the stages of a part relate to the report.
use Rattle.std.specs.Prelude.{ℕ, ◌≡◌, ◌+◌, ◌++◌, List, Option, Result, Ok, Err}
use Rattle.ed_machine.specs.State.{State}
use Rattle.ed_machine.specs.Steps.{state_after}
use Rattle.ed_notation.specs.Faults.{TapeEntry}
use Rattle.ed_io.specs.Bytes.{Gains, GainsPart}
use Rattle.ed_interlude.specs.declared.part.PartStart.{PartStart}
use Rattle.ed_interlude.specs.declared.part.PartOutcome.{PartOutcome}
use Rattle.ed_interlude.specs.declared.part.PartOutcome.TheVariants.{Ended as PartEnded, Returned as PartReturned}
use Rattle.ed_interlude.specs.declared.part.Arrival.{Arrival}
use Rattle.ed_interlude.specs.declared.program.ProgramOutcome.{ProgramOutcome}
use Rattle.ed_interlude.specs.declared.program.ProgramOutcome.TheVariants.{Finished, Returned}
use Rattle.ed_io.specs.declared.stop.WriteStop.{WriteStop}
use Rattle.ed_interlude.specs.Parts.{ReturnsToLoader, Concludes, Finishes, GoesBack, ReportsParts, LeadsTo, TapePart, PartsReport}
use Rattle.ed_interlude.specs.Parts.{part_report}
use Rattle.ed_interlude.specs.Parts.{BreaksPart, ReachesPart, part_after}
use Rattle.ed_interlude.specs.Parts.{read_before}

-- a program ended or returned
abbrev pub Meets : ℕ → State → ProgramOutcome → State → Type 0
Meets left s (Finished ending) last = (k : ℕ) × Finishes left k s ending × (last ≡ state_after k s)
Meets left s (Returned orders) last = ReturnsToLoader left orders s × (last ≡ state_after orders s)

-- the part that begins so
abbrev pub part_at_start : PartStart → State → TapePart
part_at_start part_start s = record { number = part_start.number; done = part_start.done; state = s }

-- an arrival describes an entry
pub record IsArrival (rows : ℕ) (p : TapePart) (a : Arrival) (e : TapeEntry) : Type 0 where
  pub leads : LeadsTo p e
  pub at_is : a.at ≡ e.at
  pub orders_are : a.orders ≡ e.cost
  pub rows_are : a.rows ≡ read_before rows p + e.rows

-- a sink has gained a prefix of the report from a part onwards
pub record BreaksReport (limit rows : ℕ) (p : TapePart) (before after : Option (List ℕ)) : Type 0 where
  pub returns : ℕ
  pub tale : PartsReport
  pub told : ReportsParts limit rows returns p tale
  pub gains : GainsPart before after tale.text

-- a part was passed: it is the last one, and its report is written; or its program returned, and its lines are written;
-- or it broke off
abbrev pub Passes : ℕ → ℕ → TapePart → Result PartOutcome WriteStop → State → Option (List ℕ) → Option (List ℕ) → Type 0
Passes limit rows p (Ok (PartEnded end)) last before after =
    (t : PartsReport) × Concludes limit rows p t × (end ≡ t.end) × (last ≡ t.last) × Gains before after t.text
Passes limit rows p (Ok (PartReturned done)) last before after =
    (b : GoesBack limit p) × (done ≡ (part_after p b).done) × (last ≡ (part_after p b).state)
    × Gains before after (part_report rows p b)
Passes limit rows p (Err fault) last before after =
    BreaksReport limit rows p before after × BreaksPart limit rows p fault last before after

-- the lines of the parts that returned are written so far, and the report from here on completes the report on the tape
pub record Ahead (limit rows : ℕ) (first p : TapePart) (before after : Option (List ℕ)) : Type 0 where
  pub returns : ℕ
  pub text : List ℕ
  pub reached : ReachesPart limit rows first returns text p
  pub gains : Gains before after text
  pub completes : (n : ℕ) (rest : PartsReport) → ReportsParts limit rows n p rest
      → (m : ℕ) × ReportsParts limit rows m first (record rest { text = text ++ rest.text })
