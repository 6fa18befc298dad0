-- Where the 31 orders wait when they have read the beginning of a tape, whether or not the tape has a fault after it
-- (what the orders of May 1949 do).
use Rattle.std.specs.Prelude.{ℕ, ◌≡◌, ◌+◌, ◌*◌, ◌^◌, Bool, false, Option, Some, None, List, [], ◌++◌, length, drop, slice_set}
use Rattle.ed_words.specs.declared.order_words.TheConstants.{T_F}
use Rattle.ed_machine.specs.State.{State}
use Rattle.ed_machine.specs.Steps.{progress, state_after}
use Rattle.ed_notation.specs.Items.{digits_number}
use Rattle.ed_initial.specs.Walks.{later}
use Rattle.ed_initial1.specs.Listing.{first_orders}
use Rattle.ed_initial1.specs.Items.{Begun1, Item1, costs1, words}
use Rattle.ed_initial1.specs.Faults.{IsRead1}
use Rattle.ed_initial1.specs.Load.{IsQuiet1}

-- where the machine waits after a part of an item: at 11, or at 7 between two items
abbrev pub waiting_place1 : Option Begun1 → ℕ
waiting_place1 None = 7
waiting_place1 (Some b) = 11

-- the words in the locations 0 to 3, and the digit of the pair 0, 1
pub record Scratch1 : Type 0 where
  pub at0 : ℕ
  pub at1 : ℕ
  pub at2 : ℕ
  pub at3 : ℕ
  pub digit0 : Bool

-- the locations 0 to 30 after n items: the listing with those words, and with the order at 25 that places the next word
abbrev pub waiting_orders : Scratch1 → ℕ → List ℕ
waiting_orders w n =
    slice_set (slice_set (slice_set (slice_set (slice_set first_orders 0 w.at0) 1 w.at1) 2 w.at2) 3 w.at3)
    25 (T_F + 2 * (31 + n))

-- a rest at a location, after items whose words stand from 31 upwards; `s` gives the opening store, the rows left, the
-- last printed code and the count of orders
abbrev pub rest1_at : ℕ → Scratch1 → List Item1 → State → State
rest1_at place w before s = record s {
  store = record {
    words = waiting_orders w (length before) ++ (words before ++ drop (31 + length before) s.store.words);
    sandwich = slice_set s.store.sandwich 0 w.digit0;
  };
  acc = 0;
  multiplier = T_F * 2 ^ 18;
  counter = place;
}

-- the words that an item so far leaves; 2 and 3 are left open
abbrev pub scratch1_of : Begun1 → ℕ → ℕ → Scratch1
scratch1_of b at2 at3 = record {
  at0 = 4096 * b.function;
  at1 = digits_number 0 b.digits;
  at2 = at2;
  at3 = at3;
  digit0 = false;
}

-- the machine rests after whole items and a part of an item
abbrev pub RestsAfter1 : State → List Item1 → Option Begun1 → State → Type 0
RestsAfter1 o before None t = (w : Scratch1) × (t ≡ rest1_at 7 w before o)
RestsAfter1 o before (Some b) t = (at2 : ℕ) × (at3 : ℕ) × (t ≡ rest1_at 11 (scratch1_of b at2 at3) before o)

-- the number of orders between two whole items and the order that reads the next row: 1 before a function row, and
-- otherwise those that read the part of an item
abbrev pub part_cost1 : Option Begun1 → ℕ
part_cost1 None = 1
part_cost1 (Some b) = 5 + 10 * length b.digits

-- the number of orders from Start up to the one that reads a row: 4, those of the items before it, and those of the
-- part of its own item
abbrev pub orders_before1 : {rows : List ℕ} {row : ℕ} → IsRead1 rows row → ℕ
orders_before1 r = 4 + costs1 r.before + part_cost1 r.part

-- after k orders the machine waits for the first of the rows left: each order went on, none printed, and the machine
-- rests in what the items and the part of an item have set
pub record AwaitsRow1 (s : State) (k : ℕ) (before : List Item1) (part : Option Begun1) (rest : List ℕ) : Type 0 where
  pub quiet : IsQuiet1 k s
  pub silent : (progress k s).codes ≡ []
  pub rests : RestsAfter1 (later k rest s) before part (state_after k s)

-- the machine waits for each row of its tape that is read
abbrev pub WaitsForRows1 : State → Type 0
WaitsForRows1 s = (row : ℕ) (r : IsRead1 s.tape row) → AwaitsRow1 s (orders_before1 r) r.before r.part r.rest
