-- The items of a tape as the page gets them: the rows that spell each, and the word that it places (this project's own
-- rules).
use Rattle.std.specs.Prelude.{◌≡◌, ◌⊎◌, ℕ, ◌+◌, ◌/◌, ◌%◌, Option, Some, None, List, [], ◌∷◌, ◌++◌, length}
use Rattle.std.specs.Prelude.{if◌then◌else◌}
use Rattle.ed_words.specs.declared.size.Size.{Size}
use Rattle.ed_store.specs.Cells.{cleared_cells}
use Rattle.ed_notation.specs.declared.cause.TapeCause.{TapeCause}
use Rattle.ed_notation.specs.declared.item.Item.{Item}
use Rattle.ed_notation.specs.declared.kind.RowKind.{RowKind}
use Rattle.ed_notation.specs.declared.kind.RowKind.TheVariants.{Letter}
use Rattle.ed_notation.specs.Faults.{RowsReachEntry, IsFault, TapeEntry, WellFormed}
use Rattle.ed_notation.specs.Fold.{NotationState, act, address, letter_action_of, enters_at, item_word}
use Rattle.ed_notation.specs.Items.{Written, item, row_kind, rows_of}
use Rattle.ed_initial1.specs.declared.cause.Tape1Cause.{Tape1Cause}
use Rattle.ed_initial1.specs.Faults.{ReachesEntry1, IsFault1, Tape}
use Rattle.ed_initial1.specs.Items.{Item1, rows_of1, word1}
use Rattle.ed_report.specs.FirstNotes.{rule1_line}
use Rattle.ed_report.specs.Notes.{rule_line}
use Rattle.ed_tapes.specs.Answer.{Answer, of_rows}
use Rattle.ed_tapes.specs.Outcome.{Outcome, done, refusal}
use Rattle.ed_tapes.specs.Tapes.{opening_notation}

-- ---- what an item places

-- the location and the word that an item places, by the kind of its ending row: a code letter that does not enter places
-- the item's word at the directive's address
abbrev pub placing_by : RowKind → List ℕ → NotationState → Item → Option (ℕ × ℕ)
placing_by Letter words note i =
    if enters_at (letter_action_of note.directive) then None else Some (address note.directive, item_word words note i)
placing_by kind words note i = None

-- the location and the word that an item places, if it places one
abbrev pub placing : List ℕ → NotationState → Item → Option (ℕ × ℕ)
placing words note i = placing_by (row_kind i.end) words note i

-- what was placed, the last first, with what an item places
abbrev pub with_placing : Option (ℕ × ℕ) → List (ℕ × ℕ) → List (ℕ × ℕ)
with_placing None placed = placed
with_placing (Some p) placed = p ∷ placed

-- so the fold has it after the item
abbrev pub PlacingLaw : Type 0
PlacingLaw = (words : List ℕ) (note : NotationState) (i : Item)
    → (act words note i).placed ≡ with_placing (placing words note i) note.placed

-- ---- the table

-- a number below 2^32 as four bytes, the least first
abbrev pub four_bytes : ℕ → List ℕ
four_bytes n = n % 256 ∷ n / 256 % 256 ∷ n / 65536 % 256 ∷ n / 16777216 % 256 ∷ []

-- four numbers, one after the other
abbrev pub four_numbers : (a b c d : ℕ) → List ℕ
four_numbers a b c d = four_bytes a ++ (four_bytes b ++ (four_bytes c ++ four_bytes d))

-- an item in the table: its first row, the row after its last, the location at which it places a word, and the word; the
-- location is 1024 and the word 0 if it places none
abbrev pub item_line : (first after : ℕ) → Option (ℕ × ℕ) → List ℕ
item_line first after None = four_numbers first after 1024 0
item_line first after (Some p) = four_numbers first after p.0 p.1

-- the table of items one after the other; the first begins at a row
unfoldable pub item_table : List ℕ → NotationState → ℕ → List Written → List ℕ
item_table words note row [] = []
item_table words note row (w ∷ ws) =
    item_line row (row + length (rows_of w)) (placing words note (item w))
    ++ item_table words (act words note (item w)) (row + length (rows_of w)) ws

-- the table of the items of a whole tape, on a cleared store
abbrev pub tape_table : List Written → List ℕ
tape_table = item_table cleared_cells.words opening_notation 0

-- ---- the answer

-- of a well-formed tape: its items, the entry item included
pub record OfEnteredTape (z : Size) (codes : List ℕ) (o : Outcome) : Type 0 where
  pub well : WellFormed z cleared_cells.words opening_notation codes
  pub entry : TapeEntry
  pub comes : RowsReachEntry cleared_cells.words opening_notation 9 codes entry
  pub outcome : done (tape_table (comes.before ++ (comes.last ∷ []))) ≡ o

-- of a tape with a fault: the items before it, and the line of the fault
pub record OfFaultyTape (z : Size) (codes : List ℕ) (o : Outcome) : Type 0 where
  pub row : ℕ
  pub cause : TapeCause
  pub fault : IsFault z cleared_cells.words opening_notation codes row cause
  pub outcome : record (refusal (rule_line row cause)) { out = tape_table fault.is.stands.before } ≡ o

-- of either
abbrev pub IsItemsOutcome : Size → List ℕ → Outcome → Type 0
IsItemsOutcome z codes o = OfEnteredTape z codes o ⊎ OfFaultyTape z codes o

-- what is answered about the items of a tape's text; a text that spells no rows is refused
abbrev pub items_answer : Size → Answer
items_answer z = of_rows (IsItemsOutcome z)

-- ---- tapes of May 1949

-- the table of items of such a tape; the first begins at a row and goes to a location
unfoldable pub item_table1 : (row location : ℕ) → List Item1 → List ℕ
item_table1 row location [] = []
item_table1 row location (i ∷ is) =
    item_line row (row + length (rows_of1 i)) (Some (location, word1 i))
    ++ item_table1 (row + length (rows_of1 i)) (location + 1) is

-- of a tape without a fault: its items, which go to 31 and on
pub record OfWholeTape1 (codes : List ℕ) (o : Outcome) : Type 0 where
  pub tape : Tape
  pub comes : ReachesEntry1 codes tape
  pub outcome : done (item_table1 0 31 tape.items) ≡ o

-- of a tape with a fault: the items before it, and the line of the fault
pub record OfFaultyTape1 (codes : List ℕ) (o : Outcome) : Type 0 where
  pub row : ℕ
  pub cause : Tape1Cause
  pub fault : IsFault1 codes row cause
  pub outcome : record (refusal (rule1_line row cause)) { out = item_table1 0 31 fault.is.stands.before } ≡ o

-- of either
abbrev pub IsItemsOutcome1 : List ℕ → Outcome → Type 0
IsItemsOutcome1 codes o = OfWholeTape1 codes o ⊎ OfFaultyTape1 codes o

-- what is answered about the items of such a tape's text
abbrev pub items1_answer : Answer
items1_answer = of_rows IsItemsOutcome1
