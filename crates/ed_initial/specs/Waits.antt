-- Where the Initial Orders wait when they have read the beginning of a tape, whether or not the tape has a fault after
-- it (what the Initial Orders of Wilkes, Wheeler and Gill 1951 do).
use Rattle.std.specs.Prelude.{ℕ, ◌≡◌, ◌+◌, Option, Some, None, List, []}
use Rattle.ed_machine.specs.State.{State}
use Rattle.ed_machine.specs.Steps.{progress, state_after}
use Rattle.ed_notation.specs.Items.{Begun}
use Rattle.ed_notation.specs.Fold.{NotationState}
use Rattle.ed_notation.specs.Openings.{opening}
use Rattle.ed_notation.specs.declared.cause.TapeCause.TheVariants.{EndOfTape}
use Rattle.ed_notation.specs.Faults.{IsFault, IsRead}
use Rattle.ed_notation.specs.Beginnings.{IsSoundTo, state_before, orders_before}
use Rattle.ed_initial.specs.declared.loading.Loaded.{Loaded}
use Rattle.ed_initial.specs.declared.loading.Loaded.TheVariants.{Lost}
use Rattle.ed_initial.specs.Load.{IsQuiet}
use Rattle.ed_initial.specs.Rests.{Scratch, rest34, rest9}
use Rattle.ed_initial.specs.Walks.{later, part_so_far}

-- where the machine waits after a part of an item: at 9, or at 34 between two items
abbrev pub waiting_place : Option Begun → ℕ
waiting_place None = 34
waiting_place (Some b) = 9

-- the machine rests after whole items, which have led the notation to a state, and a part of an item
abbrev pub RestsAfter : State → NotationState → Option Begun → State → Type 0
RestsAfter o notation None t = (scratch : Scratch) × (t ≡ rest34 scratch notation o)
RestsAfter o notation (Some b) t = (at1 : ℕ) × (at20 : ℕ) × (t ≡ rest9 (part_so_far b) at1 at20 notation o)

-- after k orders the machine waits for the first of the rows left: each order went on, none printed, and the machine
-- rests in what the items and the part of an item have set
pub record AwaitsRow (s : State) (k : ℕ) (notation : NotationState) (part : Option Begun) (rest : List ℕ) : Type 0 where
  pub quiet : IsQuiet k s
  pub silent : (progress k s).codes ≡ []
  pub rests : RestsAfter (later k rest s) notation part (state_after k s)

-- the machine waits for each row of its tape before which no rule is broken, after 9 orders and those that read the
-- rows before it
abbrev pub WaitsForRows : State → Type 0
WaitsForRows s =
    (row : ℕ) → IsSoundTo s.size s.store.words (opening s.store.words) s.tape row
    → (r : IsRead s.store.words (opening s.store.words) s.tape row)
    → AwaitsRow s (9 + orders_before r) (state_before r) r.part r.rest

-- if the fault of its tape is that it ends, a load is lost after 9 orders and those that read all rows
abbrev pub IsLostAtEnd : State → Loaded → Type 0
IsLostAtEnd s result =
    (row : ℕ) (f : IsFault s.size s.store.words (opening s.store.words) s.tape row EndOfTape)
    → result ≡ Lost (9 + orders_before f.is.stands)
