-- What a check reports of a tape of Initial Orders 1.
use Rattle.std.specs.Prelude.{ℕ, ◌≡◌, ◌⊎◌, ◌+◌, ◌-◌, ◌*◌, ◌≤◌, ◌&&◌, nat_le, nat_lt, List, Option, Some, None, Result}
use Rattle.std.specs.Prelude.{Ok, Err}
use Rattle.std.specs.Prelude.{length, slice_index, if◌then◌else◌}
use Rattle.ed_initial1.specs.declared.cause.Tape1Cause.{Tape1Cause}
use Rattle.ed_initial1.specs.declared.cause.Tape1Fault.{Tape1Fault}
use Rattle.ed_initial1.specs.declared.cause.Tape1Fault.TheVariants.{At, Memory}
use Rattle.ed_initial1.specs.Items.{spelled_rows1, words, costs1}
use Rattle.ed_initial1.specs.Faults.{Tape, ReachesEntry1, IsFault1, WellFormed1}

-- the cost in orders, the rows read up to the end of the last item, the location e, and the words of 31 to e - 1
pub record Report1 : Type 0 where
  pub orders : ℕ
  pub rows : ℕ
  pub end : ℕ
  pub words : List ℕ

-- the word that the tape places at a location, or None outside 31 to e - 1
abbrev pub placed_word : Report1 → ℕ → Option ℕ
placed_word r a = if nat_le 31 a && nat_lt a r.end then Some (slice_index r.words (a - 31)) else None

-- the report of a check for a tape
abbrev pub report1 : Tape → Report1
report1 t = record {
  orders = 4 + costs1 t.items;
  rows = length (spelled_rows1 t.items);
  end = t.end;
  words = words t.items;
}

-- the answer for a tape without a fault: its report, and that it costs at most 14 orders a row and 4
pub record Accepts1 (rows : List ℕ) (r : Report1) : Type 0 where
  pub well : WellFormed1 rows
  pub tape : Tape
  pub comes : ReachesEntry1 rows tape
  pub report_is : r ≡ report1 tape
  pub most : r.orders ≤ 14 * r.rows + 4

-- the answer is that for a tape without a fault, or the fault, or that no memory was found
abbrev pub Answers1 : List ℕ → Result Report1 Tape1Fault → Type 0
Answers1 rows (Ok r) = Accepts1 rows r
Answers1 rows (Err (At row cause)) = IsFault1 rows row cause
Answers1 rows (Err Memory) = Unit {0}

-- a tape gives a whole program or has a fault; at most one program and at most one fault, and never both
pub record HasOneVerdict (rows : List ℕ) : Type 0 where
  pub some : ((t : Tape) × ReachesEntry1 rows t) ⊎ ((row : ℕ) × (cause : Tape1Cause) × IsFault1 rows row cause)
  pub program : (t u : Tape) → ReachesEntry1 rows t → ReachesEntry1 rows u → t ≡ u
  pub fault : (r q : ℕ) (a b : Tape1Cause) → IsFault1 rows r a → IsFault1 rows q b → (r ≡ q) × (a ≡ b)
  pub apart : (t : Tape) → ReachesEntry1 rows t → WellFormed1 rows

-- every tape has one verdict
abbrev pub EachTapeHasOneVerdict : Type 0
EachTapeHasOneVerdict = (rows : List ℕ) → HasOneVerdict rows
