-- What holds of every tape with a fault: up to the row that `check-tape` reports the machine reads what was meant, and
-- if the rows end too early `tape` ends (this project's own rules).
use Rattle.std.specs.Prelude.{◌≡◌, ℕ, ◌+◌, ◌<◌, ◌++◌, List, codes}
use Rattle.ed_words.specs.Texts.{Text}
use Rattle.ed_store.specs.Cells.{cleared_cells}
use Rattle.ed_printer.specs.Paper.{paper}
use Rattle.ed_machine.specs.Steps.{state_after}
use Rattle.ed_run.specs.declared.settings.Settings.{Settings}
use Rattle.ed_notation.specs.declared.cause.TapeCause.{TapeCause}
use Rattle.ed_notation.specs.declared.cause.TapeCause.TheVariants.{EndOfTape}
use Rattle.ed_notation.specs.Faults.{IsFault, IsRead}
use Rattle.ed_notation.specs.Beginnings.{state_before, orders_before}
use Rattle.ed_initial.specs.Entry.{first_state}
use Rattle.ed_initial.specs.Waits.{AwaitsRow, waiting_place}
use Rattle.ed_report.specs.Notes.{rule_line}
use Rattle.ed_laws.specs.FirstFaults.{silent_outcome}
use Rattle.ed_tapes.specs.Outcome.{Outcome, refusal}
use Rattle.ed_tapes.specs.Runs.{post_mortem_codes}
use Rattle.ed_tapes.specs.Tapes.{IsChecked, opening_notation, tape_outcome}
use Rattle.ed_streams.specs.Parts.{IsInParts}

-- a run of a tape that ends after k orders at a location and has printed nothing, with its post-mortem
abbrev pub quiet_outcome : Settings → List ℕ → Text → ℕ → ℕ → ℕ → Outcome
quiet_outcome s rows name place k status = record (silent_outcome name place k status) {
  out = paper (post_mortem_codes s.post_mortem (state_after k (first_state s.size rows)));
}

-- the fault of a tape is at a row: `check-tape` reports the row. After the orders that read the rows before it the
-- machine waits for that row: each of these orders went on, none printed, and the machine rests in what the items
-- before the row, and the part of an item before it, mean. With this number as the limit the run ends there, and a
-- post-mortem shows the words placed so far. If the fault is that the tape ends, the run ends there with every greater
-- limit too: no tape, at 9 inside an item and at 34 between two. `parts` refuses the tape with the line of `check-tape`
-- after `part 1, `.
pub record TapeWaitsAtFault (s : Settings) (rows : List ℕ) (row : ℕ) (cause : TapeCause)
    (r : IsRead cleared_cells.words opening_notation rows row) : Type 0 where
  pub checked : IsChecked s rows (refusal (rule_line row cause))
  pub waits : AwaitsRow (first_state s.size rows) (9 + orders_before r) (state_before r) r.part r.rest
  pub limited : s.limit ≡ 9 + orders_before r
      → tape_outcome s rows ≡ quiet_outcome s rows (codes "limit") (waiting_place r.part) (9 + orders_before r) 4
  pub no_tape : cause ≡ EndOfTape → 9 + orders_before r < s.limit
      → tape_outcome s rows ≡ quiet_outcome s rows (codes "no tape") (waiting_place r.part) (9 + orders_before r) 6
  pub in_parts : (o : Outcome) → IsInParts s rows o → o ≡ refusal (codes "part 1, " ++ rule_line row cause)

-- the same for every tape with a fault
abbrev pub EachFaultyTapeWaits : Type 0
EachFaultyTapeWaits =
    (s : Settings) (rows : List ℕ) (row : ℕ) (cause : TapeCause)
    → (f : IsFault s.size cleared_cells.words opening_notation rows row cause)
    → TapeWaitsAtFault s rows row cause f.is.stands
