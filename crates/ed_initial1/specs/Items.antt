-- Items of the tape of Initial Orders 1: a function row, digit rows, and S or L (the listing of May 1949; that a number
-- is at most 32767 is this project's own rule). Rows are natural numbers here. A number of 32 or more is not a row and
-- breaks a rule wherever it is read; no real tape has one.
use Rattle.std.specs.Prelude.{ℕ, ◌≡◌, ◌+◌, ◌*◌, ◌%◌, ◌^◌, ◌<◌, ◌≤◌, Bool, true, false, List, [], ◌∷◌, ◌++◌, length}
use Rattle.ed_words.specs.Words.{digit}
use Rattle.ed_notation.specs.Items.{digits_number, AreDigits}

-- an item as far as it has been punched: its function row and its digit rows
pub record Begun1 : Type 0 where
  pub function : ℕ
  pub digits : List ℕ

-- a whole item; it ends with L if it is long and with S if it is short
pub record Item1 : Type 0 where
  pub begun : Begun1
  pub long : Bool

-- the number of an item
abbrev pub item_number : Item1 → ℕ
item_number i = digits_number 0 i.begun.digits

-- the ending row: S is the row 12, and L is the row 25
abbrev pub ending_row : Bool → ℕ
ending_row false = 12
ending_row true = 25

-- the rows of an item before its ending row
abbrev pub begun_rows1 : Begun1 → List ℕ
begun_rows1 b = b.function ∷ b.digits

-- the rows of an item
abbrev pub rows_of1 : Item1 → List ℕ
rows_of1 i = begun_rows1 i.begun ++ (ending_row i.long ∷ [])

-- the rows of items one after the other
abbrev pub spelled_rows1 : List Item1 → List ℕ
spelled_rows1 [] = []
spelled_rows1 (i ∷ is) = rows_of1 i ++ spelled_rows1 is

-- a function row and digit rows whose number is small enough
pub record IsBegun1 (b : Begun1) : Type 0 where
  pub function : b.function < 32
  pub digits : AreDigits b.digits
  pub fits : digits_number 0 b.digits ≤ 32767

-- the rows of each item before its ending row are right
abbrev pub AreItems : List Item1 → Type 0
AreItems [] = Unit {0}
AreItems (i ∷ is) = IsBegun1 i.begun × AreItems is

-- the word of an item
abbrev pub word1 : Item1 → ℕ
word1 i = (4096 * i.begun.function + 2 * item_number i + digit i.long) % 2 ^ 17

-- the words of items
abbrev pub words : List Item1 → List ℕ
words [] = []
words (i ∷ is) = word1 i ∷ words is

-- the number of orders that read an item: 5 for its function row, 10 for each digit row, 14 for its ending row
abbrev pub cost_of1 : Item1 → ℕ
cost_of1 i = 5 + 10 * length i.begun.digits + 14

-- the number of orders that read items one after the other
abbrev pub costs1 : List Item1 → ℕ
costs1 [] = 0
costs1 (i ∷ is) = cost_of1 i + costs1 is

-- the digit rows of items
abbrev pub item_digits : List Item1 → List ℕ
item_digits [] = []
item_digits (i ∷ is) = i.begun.digits ++ item_digits is

-- the last item of a list, or the given one if the list is empty
abbrev pub last_of : {A : Type 0} → A → List A → A
last_of a [] = a
last_of a (x ∷ xs) = last_of x xs

-- the item is T e S with e from 32 to 1023: words are placed from 31 to e - 1
pub record IsFirst (e : ℕ) (i : Item1) : Type 0 where
  pub function : i.begun.function ≡ 5
  pub short : i.long ≡ false
  pub number : item_number i ≡ e
  pub low : 32 ≤ e
  pub high : e ≤ 1023
