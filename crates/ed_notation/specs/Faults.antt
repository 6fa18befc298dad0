-- When a tape is well formed, and otherwise where its fault is and which (this project's own rules; what the Initial
-- Orders would do with a faulty tape is not part of the notation).
use Rattle.std.specs.Prelude.{ℕ, ◌≡◌, ◌⊎◌, ◌+◌, ◌*◌, ◌%◌, ◌<◌, ◌≤◌, Bool, true}
use Rattle.std.specs.Prelude.{false, ◌&&◌, ◌||◌, not, nat_eq, nat_lt, nat_le}
use Rattle.std.specs.Prelude.{Option, Some, None, List, [], ◌∷◌, ◌++◌, length}
use Rattle.ed_words.specs.declared.size.Size.{Size}
use Rattle.ed_words.specs.Sizes.{locations}
use Rattle.ed_words.specs.declared.order_words.TheConstants.{E_F, T_F}
use Rattle.ed_notation.specs.declared.item.Item.{Item}
use Rattle.ed_notation.specs.declared.cause.TapeCause.{TapeCause}
use Rattle.ed_notation.specs.declared.cause.TapeCause.TheVariants.{EndOfTape, BadRow, NumberTooLarge}
use Rattle.ed_notation.specs.declared.cause.TapeCause.TheVariants.{AfterMark, BadControl}
use Rattle.ed_notation.specs.declared.cause.TapeCause.TheVariants.{LoaderStore, StoreEnd, NoPlace}
use Rattle.ed_notation.specs.declared.cause.TapeCause.TheVariants.{EntryNegative, EntryInLoader}
use Rattle.ed_notation.specs.declared.kind.RowKind.{RowKind}
use Rattle.ed_notation.specs.declared.kind.RowKind.TheVariants.{Digit, Mark, Zed, Kay, Blank, Letter, Other}
use Rattle.ed_notation.specs.declared.kind.Control.{Control}
use Rattle.ed_notation.specs.declared.kind.Control.TheVariants.{Directive, ThetaByBlank, ThetaByG, Neither}
use Rattle.ed_notation.specs.declared.kind.LetterAction.{LetterAction}
use Rattle.ed_notation.specs.declared.kind.LetterAction.TheVariants.{Places, Nowhere}
use Rattle.ed_notation.specs.Items.{row_kind, Begun, Written, digits_number, begun_rows, rows_of, spelled_rows, IsBegun}
use Rattle.ed_notation.specs.Items.{IsWritten}
use Rattle.ed_notation.specs.Items.{is_blank_row, item, item_of, items}
use Rattle.ed_notation.specs.Fold.{NotationState, item_word, address, control_of, letter_action_of}
use Rattle.ed_notation.specs.Fold.{enters_at, act, is_entry, fold, costs, cost_of}

-- the numbers of the rules; if two rules are broken at one row, the one with the lesser number is the fault
abbrev pub cause_number : TapeCause → ℕ
cause_number EndOfTape = 1
cause_number BadRow = 2
cause_number NumberTooLarge = 3
cause_number AfterMark = 4
cause_number BadControl = 5
cause_number LoaderStore = 6
cause_number StoreEnd = 7
cause_number NoPlace = 8
cause_number EntryNegative = 9
cause_number EntryInLoader = 10

-- whether a word is an order P, E or T with length digit F and an address below 1024
abbrev pub is_place : ℕ → Bool
is_place x =
    nat_eq (x % 2) 0 && (nat_lt x 2048 || ((nat_le E_F x && nat_lt x 14336) || (nat_le T_F x && nat_lt x 22528)))

-- whether K may not end an item of this function
abbrev pub bad_kay : Control → Bool
bad_kay Neither = true
bad_kay control = false

-- whether Z may not end an item of this function
abbrev pub bad_zed : Control → Bool
bad_zed Neither = true
bad_zed ThetaByG = true
bad_zed control = false

-- whether what Z would set is out of range: a directive that `is_place` refuses, or a sum for θ of 65536 or more
abbrev pub past_zed : Control → NotationState → Item → Bool
past_zed Directive notation i = not (is_place (4096 * i.function + 2 * i.number + notation.theta))
past_zed ThetaByBlank notation i = nat_le 65536 (2 * i.number + notation.theta)
past_zed control notation i = false

-- whether a code letter places a word
abbrev pub places_at : LetterAction → Bool
places_at Places = true
places_at action = false

-- whether a code letter has no location to go to, under a P directive
abbrev pub is_nowhere : LetterAction → Bool
is_nowhere Nowhere = true
is_nowhere action = false

-- whether the row c, of this kind, breaks the rule after the rows of b: one line for each case of a rule
abbrev pub breaks : TapeCause → RowKind → Size → List ℕ → NotationState → Begun → ℕ → Bool
breaks BadRow Other z words notation b c = true
breaks BadRow Blank z words notation b c = not (is_blank_row b)
breaks NumberTooLarge Digit z words notation b c = not b.mark && nat_lt 32767 (10 * digits_number 0 b.digits + c)
breaks AfterMark Digit z words notation b c = b.mark
breaks AfterMark Mark z words notation b c = b.mark
breaks BadControl Kay z words notation b c = b.mark || bad_kay (control_of b.function)
breaks BadControl Zed z words notation b c = b.mark || bad_zed (control_of b.function)
breaks LoaderStore Letter z words notation b c = places_at (letter_action_of notation.directive)
    && nat_lt (address notation.directive) 44
breaks StoreEnd Letter z words notation b c =
    (places_at (letter_action_of notation.directive) || enters_at (letter_action_of notation.directive))
    && nat_le (locations z) (address notation.directive)
breaks StoreEnd Kay z words notation b c = nat_lt 1023 (digits_number 0 b.digits)
breaks StoreEnd Zed z words notation b c = past_zed (control_of b.function) notation (item_of b c)
breaks NoPlace Letter z words notation b c = is_nowhere (letter_action_of notation.directive)
breaks EntryNegative Letter z words notation b c =
    enters_at (letter_action_of notation.directive) && nat_le 65536 (item_word words notation (item_of b c))
breaks EntryInLoader Letter z words notation b c =
    enters_at (letter_action_of notation.directive) && nat_lt (address notation.directive) 44
breaks cause kind z words notation b c = false

-- whether the rule is the first one: the tape must not end here
abbrev pub is_end_of_tape : TapeCause → Bool
is_end_of_tape EndOfTape = true
is_end_of_tape cause = false

-- whether the rule is the second one, which rows between items can break
abbrev pub is_bad_row : TapeCause → Bool
is_bad_row BadRow = true
is_bad_row cause = false

-- whether the rule is broken when this part of an item has been read and these rows are left
abbrev pub is_broken : Size → List ℕ → NotationState → Option Begun → List ℕ → TapeCause → Bool
is_broken z words notation part [] cause = is_end_of_tape cause
is_broken z words notation None (c ∷ rest) cause = is_bad_row cause && not (nat_lt c 32)
is_broken z words notation (Some b) (c ∷ rest) cause = breaks cause (row_kind c) z words notation b c

-- whole items one after the other, none of them an entry item
abbrev pub AreRead : List ℕ → NotationState → List Written → Type 0
AreRead words notation [] = Unit {0}
AreRead words notation (w ∷ ws) = IsWritten w × (is_entry notation (item w) ≡ false)
    × AreRead words (act words notation (item w)) ws

-- the rows of a part of an item; there are none between two items
abbrev pub part_rows : Option Begun → List ℕ
part_rows None = []
part_rows (Some b) = begun_rows b

-- a part of an item is without a fault so far
abbrev pub IsPart : Option Begun → Type 0
IsPart None = Unit {0}
IsPart (Some b) = IsBegun b

-- the row is read: whole items come before it, no entry item among them, and then a part of its own item
pub record IsRead (words : List ℕ) (start : NotationState) (rows : List ℕ) (row : ℕ) : Type 0 where
  pub before : List Written
  pub part : Option Begun
  pub rest : List ℕ
  pub are_read : AreRead words start before
  pub is_part : IsPart part
  pub rows_are : rows ≡ spelled_rows before ++ (part_rows part ++ rest)
  pub row_is : row ≡ length (spelled_rows before) + length (part_rows part)

-- the tape breaks the rule at the row
pub record Breaks (z : Size) (words : List ℕ) (start : NotationState) (rows : List ℕ) (row : ℕ) (cause : TapeCause) :
    Type 0 where
  pub stands : IsRead words start rows row
  pub breaks : is_broken z words (fold words start (items stands.before)) stands.part stands.rest cause ≡ true

-- the fault of a tape: the first row at which a rule is broken, and the rule with the least number broken there
pub record IsFault (z : Size) (words : List ℕ) (start : NotationState) (rows : List ℕ) (row : ℕ) (cause : TapeCause) :
    Type 0 where
  pub is : Breaks z words start rows row cause
  pub least : (r : ℕ) (other : TapeCause) → Breaks z words start rows r other
      → (row < r) ⊎ ((row ≡ r) × (cause_number cause ≤ cause_number other))

-- a tape is well formed: no rule is broken at any row
abbrev pub WellFormed : Size → List ℕ → NotationState → List ℕ → Type 0
WellFormed z words start rows = (row : ℕ) (cause : TapeCause) → Breaks z words start rows row cause → ⊥

-- the entry that a tape reaches: its address, the entry item and its word, the cost in orders and the number of rows
-- read up to it, the state of the notation there, and the rows that are left
pub record TapeEntry : Type 0 where
  pub at : ℕ
  pub word : ℕ
  pub cost : ℕ
  pub rows : ℕ
  pub notation : NotationState
  pub last : Item
  pub rest : List ℕ

-- the first rows of the tape spell items, only the last of them an entry item, and the entry is what their fold gives;
-- `base` is the cost before the first row
pub record RowsReachEntry (words : List ℕ) (start : NotationState) (base : ℕ) (rows : List ℕ)
    (e : TapeEntry) : Type 0 where
  pub before : List Written
  pub last : Written
  pub are_read : AreRead words start before
  pub is_written : IsWritten last
  pub notation_is : e.notation ≡ fold words start (items before)
  pub is_entry : is_entry e.notation (item last) ≡ true
  pub rows_are : rows ≡ spelled_rows before ++ (rows_of last ++ e.rest)
  pub last_is : e.last ≡ item last
  pub at_is : e.at ≡ address e.notation.directive
  pub word_is : e.word ≡ item_word words e.notation (item last)
  pub cost_is : e.cost ≡ base + costs words start before + cost_of e.notation last
  pub read_is : e.rows ≡ length (spelled_rows before) + length (rows_of last)

-- an item breaks no rule at its ending row
abbrev pub EndsSound : Size → List ℕ → NotationState → Written → Type 0
EndsSound z words notation w = (cause : TapeCause)
    → breaks cause (row_kind w.end) z words notation w.begun w.end ≡ false

-- none of the items breaks a rule at its ending row: the fold takes them without a fault
abbrev pub AreSound : Size → List ℕ → NotationState → List Written → Type 0
AreSound z words notation [] = Unit {0}
AreSound z words notation (w ∷ ws) = EndsSound z words notation w × AreSound z words (act words notation (item w)) ws
