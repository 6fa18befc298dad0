-- The answers of a post-mortem, and the state that it leaves.
use Rattle.std.specs.Prelude.{ℕ, suc, ◌≡◌, ◌≢◌, ◌⊎◌, ◌+◌, ◌-◌, ◌<◌, ◌≤◌, false, ◌++◌}
use Rattle.std.specs.Prelude.{length, slice_index, slice_index_or, Result, Ok, Err}
use Rattle.ed_words.specs.Sizes.{locations}
use Rattle.ed_machine.specs.State.{State}
use Rattle.ed_machine.specs.OrderTable.{step}
use Rattle.ed_machine.specs.Start.{start_state}
use Rattle.ed_machine.specs.Steps.{state_after}
use Rattle.ed_machine.specs.Sheet.{Sheet}
use Rattle.ed_machine.specs.declared.turn.Turn.TheVariants.{Stopped}
use Rattle.ed_notation.specs.Faults.{TapeEntry}
use Rattle.ed_initial.specs.Entry.{ReachesEntry}
use Rattle.ed_initial.specs.Listing.{initial_orders}
use Rattle.ed_postmortem.specs.Codes.{printed_codes, printing_orders}
use Rattle.ed_postmortem.specs.Tape.{tape_rows}
use Rattle.ed_postmortem.specs.declared.fault.PmFault.{PmFault}
use Rattle.ed_postmortem.specs.declared.fault.PmFault.TheVariants.{InItsOwnStore, StoreEnd, PaperFull, Memory}

-- the machine started on the post-mortem's tape, without Clear
abbrev pub begun_on : State → ℕ → ℕ → State
begun_on s first count = start_state initial_orders (tape_rows first count) s

-- a location that a post-mortem does not change: any but 0 to 43, 45, 46 and 56 to 139
pub record IsUntouched (i : ℕ) : Type 0 where
  pub above : 43 < i
  pub no_45 : i ≢ 45
  pub no_46 : i ≢ 46
  pub apart : (i < 56) ⊎ (139 < i)

-- more orders than any post-mortem obeys
abbrev pub enough_orders : ℕ
enough_orders = 300000

-- the words can be printed: they are after the post-mortem's own, and within the store
pub record InRange (s : State) (first count : ℕ) : Type 0 where
  pub above : 144 ≤ first
  pub within : first + count ≤ locations s.size

-- the words were printed, in n orders
pub record IsPrinted (s : State) (sheet : Sheet) (first count n : ℕ) (t : State) (full : Sheet) : Type 0 where
  -- the tape is well formed from the store and reaches an entry at its cost
  pub entry : TapeEntry
  pub comes : ReachesEntry (begun_on s first count) entry
  -- the orders are that cost and those that print
  pub orders_are : n ≡ entry.cost + printing_orders s.store.words first count
  -- the state is the one n orders after the start, and the last order was a stop
  pub state_is : t ≡ state_after n (begun_on s first count)
  pub before : ℕ
  pub last : n ≡ suc before
  pub stops : (step (state_after before (begun_on s first count))).turn ≡ Stopped
  -- the paper has gained the codes of the words that the store held before the call
  pub sheet_is : full ≡ record { codes = sheet.codes ++ printed_codes s.store.words first count; room = sheet.room }
  -- every other word is unchanged, and so is every sandwich digit but that of the pair 40, 41
  pub words_are : (i : ℕ) → IsUntouched i → slice_index t.store.words i ≡ slice_index s.store.words i
  pub digits_are : (i : ℕ) → i ≢ 20 → slice_index_or t.store.sandwich i false ≡ slice_index_or s.store.sandwich i false

-- nothing has changed
abbrev pub Unchanged : State → Sheet → State → Sheet → Type 0
Unchanged s sheet t full = (t ≡ s) × (full ≡ sheet)

-- the number of codes for which there still is room
abbrev pub room_of : Sheet → ℕ
room_of sheet = sheet.room - length sheet.codes

-- the number of codes needed
abbrev pub needed_of : State → ℕ → ℕ → ℕ
needed_of s first count = length (printed_codes s.store.words first count)

-- the answers and their causes, in the order of the tests
abbrev pub AnswersPrinting : State → Sheet → ℕ → ℕ → Result ℕ PmFault → State → Sheet → Type 0
AnswersPrinting s sheet first count (Ok n) t full =
    InRange s first count × (needed_of s first count ≤ room_of sheet) × IsPrinted s sheet first count n t full
AnswersPrinting s sheet first count (Err InItsOwnStore) t full = (first < 144) × Unchanged s sheet t full
AnswersPrinting s sheet first count (Err StoreEnd) t full = (144 ≤ first) × (locations s.size < first + count)
    × Unchanged s sheet t full
AnswersPrinting s sheet first count (Err (PaperFull needed room)) t full =
    InRange s first count × (needed ≡ needed_of s first count) × (room ≡ room_of sheet) × (room < needed)
    × Unchanged s sheet t full
AnswersPrinting s sheet first count (Err Memory) t full =
    InRange s first count × (needed_of s first count ≤ room_of sheet) × Unchanged s sheet t full

-- a paper with room for 9,680 codes is enough for all words that can be printed at once, on a machine of either size
abbrev pub PaperIsEnough : Type 0
PaperIsEnough = (s : State) (first count : ℕ) → InRange s first count → needed_of s first count ≤ 9680
