-- Items of the tape and the rows that spell them (Wilkes, Wheeler and Gill 1951; that a number is at most 32767, and
-- that no blank row is inside an item other than a blank pair, are this project's own rules).
-- Rows are natural numbers here. A number of 32 or more is not a row and breaks a rule wherever it is read; no real
-- tape has one.
use Rattle.std.specs.Prelude.{ℕ, ◌≡◌, ◌+◌, ◌*◌, ◌<◌, ◌≤◌, Bool, true, false}
use Rattle.std.specs.Prelude.{◌&&◌, not, nat_eq, nat_lt, nat_le, if◌then◌else◌}
use Rattle.std.specs.Prelude.{List, [], ◌∷◌, ◌++◌}
use Rattle.ed_notation.specs.declared.item.Item.{Item}
use Rattle.ed_notation.specs.declared.kind.RowKind.{RowKind}
use Rattle.ed_notation.specs.declared.kind.RowKind.TheVariants.{Digit, Mark, Zed, Kay, Blank, Letter, Other}

-- the kind of a row inside an item, after its function row: the digits 0 to 9, π, Z, K, blank and the code letters
abbrev pub row_kind : ℕ → RowKind
row_kind c =
    if nat_lt c 10 then Digit
    else if nat_eq c 11 then Mark
    else if nat_eq c 13 then Zed
    else if nat_eq c 14 then Kay
    else if nat_eq c 16 then Blank
    else if nat_le 17 c && nat_lt c 32 then Letter
    else Other

-- an item as far as it has been punched: its function row, its digit rows, and whether a π follows them
pub record Begun : Type 0 where
  pub function : ℕ
  pub digits : List ℕ
  pub mark : Bool

-- a whole item, row by row
pub record Written : Type 0 where
  pub begun : Begun
  pub end : ℕ

-- the number n with these digits appended
abbrev pub digits_number : ℕ → List ℕ → ℕ
digits_number n [] = n
digits_number n (d ∷ ds) = digits_number (10 * n + d) ds

-- whether there are no digit rows
abbrev pub is_empty : List ℕ → Bool
is_empty [] = true
is_empty (d ∷ ds) = false

-- the π row of an item with a mark
abbrev pub mark_rows : Bool → List ℕ
mark_rows true = 11 ∷ []
mark_rows false = []

-- the rows of an item before its ending row
abbrev pub begun_rows : Begun → List ℕ
begun_rows b = b.function ∷ (b.digits ++ mark_rows b.mark)

-- the rows of an item
abbrev pub rows_of : Written → List ℕ
rows_of w = begun_rows w.begun ++ (w.end ∷ [])

-- the rows of items one after the other
abbrev pub spelled_rows : List Written → List ℕ
spelled_rows [] = []
spelled_rows (w ∷ ws) = rows_of w ++ spelled_rows ws

-- all of them are digits
abbrev pub AreDigits : List ℕ → Type 0
AreDigits [] = Unit {0}
AreDigits (d ∷ ds) = (d < 10) × AreDigits ds

-- the rows before an ending are a function row and digit rows whose number is small enough
pub record IsBegun (b : Begun) : Type 0 where
  pub function : b.function < 32
  pub digits : AreDigits b.digits
  pub fits : digits_number 0 b.digits ≤ 32767

-- whether it is a function row 16 alone
abbrev pub is_blank_row : Begun → Bool
is_blank_row b = is_empty b.digits && (not b.mark && nat_eq b.function 16)

-- whether a row of this kind ends the item: Z, K, a code letter, or the second blank of a blank pair
abbrev pub ends : RowKind → Begun → Bool
ends Zed b = true
ends Kay b = true
ends Letter b = true
ends Blank b = is_blank_row b
ends kind b = false

-- the rows are those of an item
pub record IsWritten (w : Written) : Type 0 where
  pub begun : IsBegun w.begun
  pub ended : ends (row_kind w.end) w.begun ≡ true

-- the item of the rows before an ending and of the ending row
abbrev pub item_of : Begun → ℕ → Item
item_of b c = record { function = b.function; number = digits_number 0 b.digits; mark = b.mark; end = c }

-- the item that rows spell; a blank pair is the item of function 16, number 0, no mark and ending 16
abbrev pub item : Written → Item
item w = item_of w.begun w.end

-- the items that rows spell
abbrev pub items : List Written → List Item
items [] = []
items (w ∷ ws) = item w ∷ items ws

-- the rows spell the item
pub record SpellsItem (i : Item) (rows : List ℕ) : Type 0 where
  pub written : Written
  pub good : IsWritten written
  pub item_is : item written ≡ i
  pub rows_are : rows_of written ≡ rows
