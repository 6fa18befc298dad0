-- The result of reading a tape text, as a function of its bytes from left to right (this project's own rule).
use Rattle.std.specs.Prelude.{◌≡◌, ℕ, ◌+◌, ◌==◌, List, [], ◌∷◌, Option, Some, None, if◌then◌else◌}
use Rattle.ed_codes.specs.Spelling.{row_of}
use Rattle.ed_codes.specs.Text.{is_spacing, Spells, HasNoRow, HasOpenComment}

-- the rows of a text, or its first fault with the offset of its byte
pub data Reading : Type 0 where
  rows : List ℕ → Reading
  no_row : ℕ → ℕ → Reading
  open_comment : ℕ → Reading

-- a row, then the result for the bytes after it
abbrev pub with_row : ℕ → Reading → Reading
with_row code (rows codes) = rows (code ∷ codes)
with_row code r = r

-- the row that the byte at this offset spells and what follows it, or the fault
abbrev pub row_or_fault : Option ℕ → ℕ → ℕ → Reading → Reading
row_or_fault None place byte after = no_row place byte
row_or_fault (Some code) place byte after = with_row code after

-- the result for bytes whose first is at this offset: outside comments (None), or in the comment that began at `start`
abbrev pub reading_from : Option ℕ → ℕ → List ℕ → Reading
reading_from None place [] = rows []
reading_from None place (b ∷ bs) = if b == 91 then reading_from (Some place) (place + 1) bs
    else if is_spacing b then reading_from None (place + 1) bs
    else row_or_fault (row_of b) place b (reading_from None (place + 1) bs)
reading_from (Some start) place [] = open_comment start
reading_from (Some start) place (b ∷ bs) = if b == 93 then reading_from None (place + 1) bs
    else reading_from (Some start) (place + 1) bs

-- the result for a whole text
abbrev pub reading : List ℕ → Reading
reading = reading_from None 0

-- what a reading states about its text: the text spells these rows, or has this fault first
abbrev pub IsReadingOf : List ℕ → Reading → Type 0
IsReadingOf text (rows codes) = Spells text codes
IsReadingOf text (no_row place byte) = HasNoRow text place byte
IsReadingOf text (open_comment place) = HasOpenComment text place

-- Every text either spells exactly one list of rows or has exactly one first fault, never both; that is its reading.
pub record HasOneReading : Type 0 where
  pub every : (text : List ℕ) → IsReadingOf text (reading text)
  pub only : (text : List ℕ) (r : Reading) → IsReadingOf text r → reading text ≡ r
