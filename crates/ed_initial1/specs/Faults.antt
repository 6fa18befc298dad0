-- The program that a tape of Initial Orders 1 gives, or where its fault is and which (this project's own rules; what
-- the orders would do with a faulty tape is not part of the notation).
use Rattle.std.specs.Prelude.{ℕ, ◌≡◌, ◌⊎◌, ◌+◌, ◌*◌, ◌<◌, ◌≤◌, Bool, true, false, ◌&&◌, ◌||◌, not, nat_eq, nat_lt}
use Rattle.std.specs.Prelude.{nat_le}
use Rattle.std.specs.Prelude.{Option, Some, None, List, [], ◌∷◌, ◌++◌, length}
use Rattle.ed_notation.specs.Items.{digits_number}
use Rattle.ed_initial1.specs.declared.cause.Tape1Cause.{Tape1Cause}
use Rattle.ed_initial1.specs.declared.cause.Tape1Cause.TheVariants.{EndOfTape, BadRow, NumberTooLarge, FirstWord}
use Rattle.ed_initial1.specs.Items.{Begun1, Item1, item_number, begun_rows1, spelled_rows1, IsBegun1, AreItems, IsFirst}

-- the numbers of the rules; if two rules are broken at one row, the one with the lesser number is the fault
abbrev pub rule : Tape1Cause → ℕ
rule EndOfTape = 1
rule BadRow = 2
rule NumberTooLarge = 3
rule FirstWord = 4

-- what is read of a tape: the location e that T e S names, the items, and the rows left after them
pub record Tape : Type 0 where
  pub end : ℕ
  pub items : List Item1
  pub rest : List ℕ

-- the first of the items is T e S
abbrev pub BeginsWith : ℕ → List Item1 → Type 0
BeginsWith e [] = ⊥
BeginsWith e (i ∷ is) = IsFirst e i

-- the rows begin with a whole program: T e S, and in all one item for each of the locations 31 to e - 1
pub record ReachesEntry1 (rows : List ℕ) (t : Tape) : Type 0 where
  pub rows_are : rows ≡ spelled_rows1 t.items ++ t.rest
  pub good : AreItems t.items
  pub first : BeginsWith t.end t.items
  pub count : 31 + length t.items ≡ t.end

-- loading goes on after these items: there are none, or the first is T e S and they do not reach e - 1
abbrev pub IsLoading : List Item1 → Type 0
IsLoading [] = Unit {0}
IsLoading (i ∷ is) = IsFirst (item_number i) i × (31 + length (i ∷ is) < item_number i)

-- the rows of a part of an item; there are none between two items
abbrev pub part_rows1 : Option Begun1 → List ℕ
part_rows1 None = []
part_rows1 (Some b) = begun_rows1 b

-- a part of an item is without a fault so far
abbrev pub IsPart1 : Option Begun1 → Type 0
IsPart1 None = Unit {0}
IsPart1 (Some b) = IsBegun1 b

-- the row is read: whole items come before it and then a part of its own item, while loading goes on
pub record IsRead1 (rows : List ℕ) (row : ℕ) : Type 0 where
  pub before : List Item1
  pub part : Option Begun1
  pub rest : List ℕ
  pub good : AreItems before
  pub goes_on : IsLoading before
  pub is_part : IsPart1 part
  pub rows_are : rows ≡ spelled_rows1 before ++ (part_rows1 part ++ rest)
  pub row_is : row ≡ length (spelled_rows1 before) + length (part_rows1 part)

-- whether an item is a first word: T e S with e from 32 to 1023
abbrev pub is_first : Begun1 → ℕ → Bool
is_first b c = nat_eq b.function 5
    && (nat_eq c 12 && (nat_le 32 (digits_number 0 b.digits) && nat_le (digits_number 0 b.digits) 1023))

-- whether there are no items
abbrev pub is_none : List Item1 → Bool
is_none [] = true
is_none (i ∷ is) = false

-- whether a row ends an item
abbrev pub ends1 : ℕ → Bool
ends1 c = nat_eq c 12 || nat_eq c 25

-- whether the row c breaks the rule after a part of an item: one line for each rule
abbrev pub breaks1 : Tape1Cause → List Item1 → Begun1 → ℕ → Bool
breaks1 EndOfTape before b c = false
breaks1 BadRow before b c = not (nat_lt c 10) && not (ends1 c)
breaks1 NumberTooLarge before b c = nat_lt c 10 && nat_lt 32767 (10 * digits_number 0 b.digits + c)
breaks1 FirstWord before b c = ends1 c && (is_none before && not (is_first b c))

-- whether the rule is the first one: the tape must not end here
abbrev pub is_end_of_tape1 : Tape1Cause → Bool
is_end_of_tape1 EndOfTape = true
is_end_of_tape1 cause = false

-- whether the rule is the second one, which rows between items can break
abbrev pub is_bad_row1 : Tape1Cause → Bool
is_bad_row1 BadRow = true
is_bad_row1 cause = false

-- whether the rule is broken when these items and this part have been read and these rows are left
abbrev pub is_broken1 : List Item1 → Option Begun1 → List ℕ → Tape1Cause → Bool
is_broken1 before part [] cause = is_end_of_tape1 cause
is_broken1 before None (c ∷ rest) cause = is_bad_row1 cause && not (nat_lt c 32)
is_broken1 before (Some b) (c ∷ rest) cause = breaks1 cause before b c

-- the tape breaks the rule at the row
pub record Breaks1 (rows : List ℕ) (row : ℕ) (cause : Tape1Cause) : Type 0 where
  pub stands : IsRead1 rows row
  pub breaks : is_broken1 stands.before stands.part stands.rest cause ≡ true

-- the fault of a tape: the first row at which a rule is broken, and the rule with the least number broken there
pub record IsFault1 (rows : List ℕ) (row : ℕ) (cause : Tape1Cause) : Type 0 where
  pub is : Breaks1 rows row cause
  pub least : (r : ℕ) (other : Tape1Cause) → Breaks1 rows r other → (row < r) ⊎ ((row ≡ r) × (rule cause ≤ rule other))

-- a tape is well formed: no rule is broken at any row
abbrev pub WellFormed1 : List ℕ → Type 0
WellFormed1 rows = (row : ℕ) (cause : Tape1Cause) → Breaks1 rows row cause → ⊥
