-- What the beginning of a tape means: the rows up to one before which no rule is broken.
use Rattle.std.specs.Prelude.{ℕ, ◌+◌, ◌≤◌, Option, Some, None, List}
use Rattle.ed_words.specs.declared.size.Size.{Size}
use Rattle.ed_notation.specs.declared.cause.TapeCause.{TapeCause}
use Rattle.ed_notation.specs.Items.{Begun, items}
use Rattle.ed_notation.specs.Fold.{NotationState, begun_cost, costs, fold}
use Rattle.ed_notation.specs.Faults.{Breaks, IsRead}

-- no rule is broken at a row before this one; so it is up to the fault of a tape, and up to each row of a tape without one
abbrev pub IsSoundTo : Size → List ℕ → NotationState → List ℕ → ℕ → Type 0
IsSoundTo z words start rows row = (r : ℕ) (cause : TapeCause) → Breaks z words start rows r cause → row ≤ r

-- the number of orders that read a part of an item; there are none between two items
abbrev pub part_cost : Option Begun → ℕ
part_cost None = 0
part_cost (Some b) = begun_cost b

module _ {words : List ℕ} {start : NotationState} {rows : List ℕ} {row : ℕ} (r : IsRead words start rows row) where
  -- the state of the notation after the items before the row
  abbrev pub state_before : NotationState
  state_before = fold words start (items r.before)

  -- the number of orders that read the rows before the row: those of the items, and those of the part of its own item
  abbrev pub orders_before : ℕ
  orders_before = costs words start r.before + part_cost r.part
