-- The rows of a tape text, and its faults (comments and spacing are this project's own rule).
use Rattle.std.specs.Prelude.{◌≡◌, ℕ, ◌==◌, ◌||◌, Bool, true, false, List, [], ◌∷◌, ◌++◌, Some, None, take, drop}
use Rattle.std.specs.List.{list_any}
use Rattle.ed_codes.specs.Spelling.{row_of}

-- a byte that spells no row and is no fault: a space (32), tab (9), carriage return (13) or line feed (10)
abbrev pub is_spacing : ℕ → Bool
is_spacing byte = byte == 32 || (byte == 9 || (byte == 13 || byte == 10))

-- whether the bytes contain a `]` (93)
abbrev pub has_close : List ℕ → Bool
has_close text = list_any (λ b. b == 93) text

-- The text is a list of pieces, and these are the codes of the rows that it spells.
pub data Spells : List ℕ → List ℕ → Type 0 where
  none : Spells [] []
  row : (byte code : ℕ) (text rows : List ℕ) → row_of byte ≡ Some code → Spells text rows
      → Spells (byte ∷ text) (code ∷ rows)
  spacing : (byte : ℕ) (text rows : List ℕ) → is_spacing byte ≡ true → Spells text rows → Spells (byte ∷ text) rows
  -- from a `[` (91) to the next `]`
  comment : (inside text rows : List ℕ) → has_close inside ≡ false → Spells text rows
      → Spells (91 ∷ inside ++ 93 ∷ text) rows

-- the bytes before this offset are a list of pieces; the byte is at the offset, and `after` follows it
pub record StopsAt (text : List ℕ) (place byte : ℕ) (after : List ℕ) : Type 0 where
  pub rows : List ℕ
  pub before : Spells (take place text) rows
  pub here : drop place text ≡ byte ∷ after

-- the first fault is a byte at this offset that begins no piece and no comment
pub record HasNoRow (text : List ℕ) (place byte : ℕ) : Type 0 where
  pub after : List ℕ
  pub stops : StopsAt text place byte after
  pub no_row : row_of byte ≡ None
  pub no_spacing : is_spacing byte ≡ false
  pub no_comment : (byte == 91) ≡ false

-- the first fault is a comment that begins at this offset and never ends
pub record HasOpenComment (text : List ℕ) (place : ℕ) : Type 0 where
  pub after : List ℕ
  pub stops : StopsAt text place 91 after
  pub no_close : has_close after ≡ false
