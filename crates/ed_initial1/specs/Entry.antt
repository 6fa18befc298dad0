-- Where a load begins, and the state in which the program is entered at 31 (what the orders of May 1949 do with a tape
-- without a fault).
use Rattle.std.specs.Prelude.{ℕ, ◌≡◌, ◌+◌, ◌*◌, ◌^◌, ◌<◌, false, List, [], ◌++◌, slice_index, slice_set, drop}
use Rattle.ed_words.specs.declared.size.Size.TheVariants.{Full}
use Rattle.ed_words.specs.declared.order_words.TheConstants.{T_F}
use Rattle.ed_store.specs.Cells.{short_at, with_short}
use Rattle.ed_machine.specs.State.{State}
use Rattle.ed_machine.specs.OrderTable.{step}
use Rattle.ed_machine.specs.Steps.{progress}
use Rattle.ed_initial1.specs.declared.loading.Loaded1.{Loaded1}
use Rattle.ed_initial1.specs.declared.loading.Loaded1.TheVariants.{Entered}
use Rattle.ed_initial1.specs.Listing.{first_orders}
use Rattle.ed_initial1.specs.Items.{Item1, item_number, ending_row, words, costs1, item_digits, last_of}
use Rattle.ed_initial1.specs.Faults.{Tape}

-- the machine is of full size and at the first of the 31 orders
pub record IsStarted1 (s : State) : Type 0 where
  pub size : s.size ≡ Full
  pub counter : s.counter ≡ 0
  pub orders : (i : ℕ) → i < 31 → short_at s.store i ≡ slice_index first_orders i

-- an item to use if a tape has no items
abbrev pub no_item : Item1
no_item = record { begun = record { function = 0; digits = [] }; long = false }

-- the last item of a tape
abbrev pub last_item : Tape → Item1
last_item t = last_of no_item t.items

-- the locations 0 to 30: the listing, except for five words that the orders have changed
abbrev pub left_orders : Tape → List ℕ
left_orders t =
    slice_set (slice_set (slice_set (slice_set (slice_set first_orders
    0 (4096 * (last_item t).begun.function))
    1 (item_number (last_item t)))
    2 (ending_row (last_item t).long))
    3 (131062 + last_of 0 (item_digits t.items)))
    25 (T_F + 2 * t.end)

-- the state at the entry: `s` is the state in which the load began
abbrev pub at_entry1 : State → Tape → State
at_entry1 s t = record {
  size = s.size;
  store = record {
    words = left_orders t ++ (words t.items ++ drop t.end s.store.words);
    sandwich = slice_set s.store.sandwich 0 false;
  };
  acc = 0;
  multiplier = T_F * 2 ^ 18;
  counter = 31;
  tape = t.rest;
  last = s.last;
  orders = s.orders + (4 + costs1 t.items);
}

-- the program is entered after the orders that the tape costs, in the state at the entry, and no code was printed; the
-- order at 31, which is T e S, then clears location e
pub record IsLoaded1 (s : State) (t : Tape) (r : Loaded1) (u : State) : Type 0 where
  pub result_is : r ≡ Entered (4 + costs1 t.items)
  pub state_is : u ≡ at_entry1 s t
  pub silent : (progress (4 + costs1 t.items) s).codes ≡ []
  pub clears : (step u).state.store ≡ with_short u.store t.end 0
