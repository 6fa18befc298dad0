-- Items one after the other, the rows that spell them, and their text (Wilkes, Wheeler and Gill 1951; that a text has a
-- line for each item is this project's own rule).
use Rattle.std.specs.Prelude.{ℕ, ◌≡◌, ◌≢◌, ◌/◌, ◌%◌, Bool, true, false, ◌&&◌}
use Rattle.std.specs.Prelude.{nat_le, nat_lt, if◌then◌else◌, List, [], ◌∷◌, ◌++◌}
use Rattle.ed_codes.specs.declared.letters.TheConstants.{PI}
use Rattle.ed_codes.specs.Spelling.{byte_of}
use Rattle.ed_notation.specs.declared.item.Item.{Item}
use Rattle.ed_notation.specs.Items.{row_kind, ends, Written, IsWritten, rows_of, spelled_rows, items, SpellsItem}

-- all of them are rows of items
abbrev pub AreWritten : List Written → Type 0
AreWritten [] = Unit {0}
AreWritten (w ∷ ws) = IsWritten w × AreWritten ws

-- the rows spell these items one after the other
pub record SpellsAll (is : List Item) (rows : List ℕ) : Type 0 where
  pub written : List Written
  pub good : AreWritten written
  pub items_are : items written ≡ is
  pub rows_are : spelled_rows written ≡ rows

-- the digit of a number at a power of ten, or no digit if the number is less than the power
abbrev pub digit_at : ℕ → ℕ → List ℕ
digit_at p n = if nat_le p n then (n / p % 10) ∷ [] else []

-- the digits of a number below 100000, none for 0
abbrev pub digits_of : ℕ → List ℕ
digits_of n = digit_at 10000 n ++ (digit_at 1000 n ++ (digit_at 100 n ++ (digit_at 10 n ++ digit_at 1 n)))

-- the rows of an item: its function, the digits of its number, π if it has a mark, and its ending
abbrev pub item_rows : Item → List ℕ
item_rows i = i.function ∷ digits_of i.number ++ (if i.mark then PI ∷ [] else []) ++ i.end ∷ []

-- the canonical spelling of an item
abbrev pub canonical : Item → Written
canonical i = record {
  begun = record { function = i.function; digits = digits_of i.number; mark = i.mark };
  end = i.end;
}

-- the canonical spellings of items
abbrev pub canonicals : List Item → List Written
canonicals [] = []
canonicals (i ∷ is) = canonical i ∷ canonicals is

-- an item can be spelled: its number is at most 32767, and it ends with K, Z or a code letter or is a blank pair
-- (that its function is a code holds of each `Code`)
abbrev pub is_spellable : Item → Bool
is_spellable i = nat_lt i.function 32 && (nat_le i.number 32767 && ends (row_kind i.end) (canonical i).begun)

-- all of them can be spelled
abbrev pub AreSpellable : List Item → Type 0
AreSpellable [] = Unit {0}
AreSpellable (i ∷ is) = (is_spellable i ≡ true) × AreSpellable is

-- the digits don't begin with a zero
abbrev pub NoLeadingZero : List ℕ → Type 0
NoLeadingZero [] = Unit {0}
NoLeadingZero (d ∷ ds) = d ≢ 0

-- no item is spelled with a leading zero, or with a digit row for the number 0
abbrev pub AreCanonical : List Written → Type 0
AreCanonical [] = Unit {0}
AreCanonical (w ∷ ws) = NoLeadingZero w.begun.digits × AreCanonical ws

-- the rows spell these items one after the other, without leading zeros, and no other list of items
pub record IsSpelling (is : List Item) (rows : List ℕ) : Type 0 where
  pub spells : SpellsAll is rows
  pub canonical : AreCanonical spells.written
  pub only : (js : List Item) → SpellsAll js rows → js ≡ is

-- no spelling of an item is a proper prefix of a spelling of an item, and no rows spell two items
abbrev pub NoSpellingBeginsAnother : Type 0
NoSpellingBeginsAnother =
    (i j : Item) (rows more : List ℕ) → SpellsItem i rows → SpellsItem j (rows ++ more) → (i ≡ j) × (more ≡ [])

-- the items that can be spelled are those that rows spell
pub record SpellableIsSpelled (i : Item) : Type 0 where
  pub spelled : is_spellable i ≡ true → (rows : List ℕ) × SpellsItem i rows
  pub spellable : (rows : List ℕ) → SpellsItem i rows → is_spellable i ≡ true

-- the bytes of an item's rows, beginning at some row, and a line feed: the function row is a letter or sign, a digit
-- row a digit, and every other row a letter or sign
abbrev pub line_from : Bool → List ℕ → List ℕ
line_from as_digit [] = 10 ∷ []
line_from as_digit (c ∷ rows) = byte_of c as_digit ∷ line_from true rows

-- the text of items, a line for each
abbrev pub text_of : List Written → List ℕ
text_of [] = []
text_of (w ∷ ws) = line_from false (rows_of w) ++ text_of ws
