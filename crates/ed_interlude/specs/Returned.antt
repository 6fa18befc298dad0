-- A program that returned to the Initial Orders, and what they read next (what Initial Orders 2 of Wilkes, Wheeler and
-- Gill 1951 do at 25: the order in the accumulator becomes their directive).
use Rattle.std.specs.Prelude.{ℕ, ◌≡◌, ◌+◌, ◌*◌, ◌/◌, ◌%◌, ◌^◌, ◌<◌, ◌≤◌, slice_index}
use Rattle.ed_words.specs.declared.order_words.TheConstants.{T_F}
use Rattle.ed_store.specs.Cells.{Cells, short_at}
use Rattle.ed_machine.specs.State.{State}
use Rattle.ed_notation.specs.Fold.{NotationState}
use Rattle.ed_notation.specs.Openings.{opening_with}
use Rattle.ed_notation.specs.Faults.{TapeEntry, WellFormed, RowsReachEntry}
use Rattle.ed_initial.specs.Listing.{initial_orders}

-- the locations from `first` to before `end` hold the Initial Orders
abbrev pub AreListed : Cells → ℕ → ℕ → Type 0
AreListed c first end = (i : ℕ) → first ≤ i → i < end → short_at c i ≡ slice_index initial_orders i

-- the directive that a program left: the most significant 17 digits of the accumulator
abbrev pub directive : State → ℕ
directive s = s.acc / 2 ^ 54

-- that word is an order T with length digit F and an address of at most 1023
pub record LeavesDirective (s : State) : Type 0 where
  pub even : directive s % 2 ≡ 0
  pub least : T_F ≤ directive s
  pub most : directive s ≤ T_F + 2 * 1023

-- the machine returned: it is at 25, the Initial Orders and their constants are as they left them, and the directive is
-- in the accumulator
pub record IsReturned (s : State) : Type 0 where
  pub counter : s.counter ≡ 25
  pub low : AreListed s.store 2 20
  pub middle : AreListed s.store 21 22
  pub high : AreListed s.store 23 40
  pub one : short_at s.store 43 ≡ 1
  pub multiplier : s.multiplier ≡ T_F * 2 ^ 18
  pub leaves : LeavesDirective s

-- the state of the notation that the program left: its directive, θ from location 42, and no word placed
abbrev pub reopening : State → NotationState
reopening s = opening_with (directive s) s.store.words

-- the rows left are well formed when read in that state
abbrev pub IsRestWellFormed : State → Type 0
IsRestWellFormed s = WellFormed s.size s.store.words (reopening s) s.tape

-- the rows left also reach an entry at its cost: 2 orders, and then those of its items
pub record ReachesNextEntry (s : State) (e : TapeEntry) : Type 0 where
  pub well : IsRestWellFormed s
  pub comes : RowsReachEntry s.store.words (reopening s) 2 s.tape e
