-- What holds of every tape with a fault for Initial Orders 1: up to the row that `check-tape1` reports the machine
-- reads what was meant, and if the rows end too early `tape1` ends (this project's own rules).
use Rattle.std.specs.Prelude.{◌≡◌, ℕ, ◌<◌, List, [], codes}
use Rattle.ed_words.specs.Texts.{Text}
use Rattle.ed_run.specs.declared.settings.Settings.{Settings}
use Rattle.ed_initial1.specs.declared.cause.Tape1Cause.{Tape1Cause}
use Rattle.ed_initial1.specs.declared.cause.Tape1Cause.TheVariants.{EndOfTape}
use Rattle.ed_initial1.specs.Faults.{IsFault1, IsRead1}
use Rattle.ed_initial1.specs.Waits.{AwaitsRow1, orders_before1, waiting_place1}
use Rattle.ed_report.specs.Notes.{at_after}
use Rattle.ed_report.specs.FirstNotes.{rule1_line}
use Rattle.ed_tapes.specs.FirstOrders.{IsChecked1, first_state1, tape1_outcome}
use Rattle.ed_tapes.specs.Outcome.{Outcome, line, refusal}

-- a run that ends after k orders at a location and has printed nothing: the note `NAME at C after K`, and the status
abbrev pub silent_outcome : Text → ℕ → ℕ → ℕ → Outcome
silent_outcome name place k status = record { out = []; note = line (at_after name place k); status = status }

-- the fault of a tape is at a row: `check-tape1` reports the row. After the orders up to the one that reads it the
-- machine waits for that row: each of these orders went on, none printed, and the machine rests in what the items
-- before the row, and the part of an item before it, mean. With this number as the limit the run ends there. If the
-- fault is that the tape ends, the run ends there with every greater limit too: no tape, at 11 inside an item and at 7
-- between two.
pub record TapeWaitsAtFault1 (s : Settings) (rows : List ℕ) (row : ℕ) (cause : Tape1Cause) (r : IsRead1 rows row) :
    Type 0 where
  pub checked : IsChecked1 rows (refusal (rule1_line row cause))
  pub waits : AwaitsRow1 (first_state1 rows) (orders_before1 r) r.before r.part r.rest
  pub limited : s.limit ≡ orders_before1 r
      → tape1_outcome s rows ≡ silent_outcome (codes "limit") (waiting_place1 r.part) (orders_before1 r) 4
  pub no_tape : cause ≡ EndOfTape → orders_before1 r < s.limit
      → tape1_outcome s rows ≡ silent_outcome (codes "no tape") (waiting_place1 r.part) (orders_before1 r) 6

-- the same for every tape with a fault
abbrev pub EachFaultyTapeWaits1 : Type 0
EachFaultyTapeWaits1 =
    (s : Settings) (rows : List ℕ) (row : ℕ) (cause : Tape1Cause) (f : IsFault1 rows row cause)
    → TapeWaitsAtFault1 s rows row cause f.is.stands
