-- The reading of a tape row by row, a plain program next to the rules over items. `ReadingAlwaysIsRules`, at the end,
-- says that both agree on every tape; the contract of `check` states it.
use Rattle.std.specs.Prelude.{ℕ, ◌≡◌, ◌⊎◌, ◌+◌, ◌*◌, ◌%◌, ◌^◌, true, false, nat_eq, nat_lt, nat_le, ◌≤◌}
use Rattle.std.specs.Prelude.{if◌then◌else◌, Option, Some, None, List, [], ◌∷◌}
use Rattle.ed_words.specs.declared.size.Size.{Size}
use Rattle.ed_words.specs.Sizes.{locations}
use Rattle.ed_notation.specs.declared.cause.TapeCause.{TapeCause}
use Rattle.ed_notation.specs.declared.cause.TapeCause.TheVariants.{EndOfTape, BadRow, NumberTooLarge}
use Rattle.ed_notation.specs.declared.cause.TapeCause.TheVariants.{AfterMark, BadControl}
use Rattle.ed_notation.specs.declared.cause.TapeCause.TheVariants.{LoaderStore, StoreEnd, NoPlace}
use Rattle.ed_notation.specs.declared.cause.TapeCause.TheVariants.{EntryNegative, EntryInLoader}
use Rattle.ed_notation.specs.declared.kind.RowKind.{RowKind}
use Rattle.ed_notation.specs.declared.kind.RowKind.TheVariants.{Digit, Mark, Zed, Kay, Blank, Letter, Other}
use Rattle.ed_notation.specs.declared.kind.Control.{Control}
use Rattle.ed_notation.specs.declared.kind.Control.TheVariants.{Directive, ThetaByBlank, Neither}
use Rattle.ed_notation.specs.declared.kind.LetterAction.{LetterAction}
use Rattle.ed_notation.specs.declared.kind.LetterAction.TheVariants.{Places, Enters}
use Rattle.ed_notation.specs.declared.reader.DirectiveState.{DirectiveState}
use Rattle.ed_notation.specs.declared.reader.PartialItem.{PartialItem}
use Rattle.ed_notation.specs.declared.reader.RowEffect.{RowEffect}
use Rattle.ed_notation.specs.declared.reader.RowEffect.TheVariants.{Refused, Longer, Ended, Placed, Entered}
use Rattle.ed_notation.specs.Items.{row_kind}
use Rattle.ed_notation.specs.Fold.{NotationState, over, value_of, word_with, address, control_of, letter_action_of}
use Rattle.ed_notation.specs.Openings.{IsDirective}
use Rattle.ed_notation.specs.Faults.{is_place, TapeEntry, IsFault, WellFormed, RowsReachEntry}

-- a digit row
abbrev pub digit_effect : PartialItem → ℕ → RowEffect
digit_effect part c =
    if part.mark then Refused AfterMark
    else if nat_lt 32767 (10 * part.number + c) then Refused NumberTooLarge
    else Longer (record part { number = 10 * part.number + c; blank = false }) 9

-- a π row
abbrev pub mark_effect : PartialItem → RowEffect
mark_effect part = if part.mark then Refused AfterMark else Longer (record part { mark = true; blank = false }) 15

-- the row K, by what the function sets
abbrev pub kay_sets : Control → DirectiveState → PartialItem → RowEffect
kay_sets Directive setting part =
    if nat_lt 1023 part.number then Refused StoreEnd
    else Ended (record setting { directive = 4096 * part.function + 2 * part.number }) 16
kay_sets Neither setting part = Refused BadControl
kay_sets control setting part =
    if nat_lt 1023 part.number then Refused StoreEnd
    else Ended (record setting { theta = (4096 * part.function + 2 * part.number + setting.directive) % 2 ^ 17 }) 16

-- the row K, which may not follow a mark
abbrev pub kay_effect : Control → DirectiveState → PartialItem → RowEffect
kay_effect control setting part = if part.mark then Refused BadControl else kay_sets control setting part

-- the row Z, by what the function sets
abbrev pub zed_sets : Control → DirectiveState → PartialItem → RowEffect
zed_sets Directive setting part =
    if is_place (4096 * part.function + 2 * part.number + setting.theta)
    then Ended (record setting { directive = 4096 * part.function + 2 * part.number + setting.theta }) 17
    else Refused StoreEnd
zed_sets ThetaByBlank setting part =
    if nat_le 65536 (2 * part.number + setting.theta) then Refused StoreEnd
    else Ended (record setting { theta = (65536 + 2 * part.number + setting.theta + setting.directive) % 2 ^ 17 }) 17
zed_sets control setting part = Refused BadControl

-- the row Z, which may not follow a mark
abbrev pub zed_effect : Control → DirectiveState → PartialItem → RowEffect
zed_effect control setting part = if part.mark then Refused BadControl else zed_sets control setting part

-- a blank row
abbrev pub blank_effect : DirectiveState → PartialItem → RowEffect
blank_effect setting part =
    if part.blank then Ended (record setting { theta = setting.directive }) 14 else Refused BadRow

-- a code letter, by what it does, with the item's word
abbrev pub letter_effect : Size → LetterAction → DirectiveState → ℕ → RowEffect
letter_effect z Places setting word =
    if nat_lt (address setting.directive) 44 then Refused LoaderStore
    else if nat_le (locations z) (address setting.directive) then Refused StoreEnd
    else Placed (address setting.directive) word
letter_effect z Enters setting word =
    if nat_le (locations z) (address setting.directive) then Refused StoreEnd
    else if nat_le 65536 word then Refused EntryNegative
    else if nat_lt (address setting.directive) 44 then Refused EntryInLoader
    else Entered (address setting.directive)
letter_effect z action setting word = Refused NoPlace

-- the word of the item so far with a code letter
abbrev pub part_word : List ℕ → DirectiveState → PartialItem → ℕ → ℕ
part_word contents setting part c =
    word_with part.function part.number part.mark (value_of contents setting.theta c)

-- what a row of this kind does inside an item
abbrev pub row_effect : Size → RowKind → List ℕ → DirectiveState → PartialItem → ℕ → RowEffect
row_effect z Digit contents setting part c = digit_effect part c
row_effect z Mark contents setting part c = mark_effect part
row_effect z Zed contents setting part c = zed_effect (control_of part.function) setting part
row_effect z Kay contents setting part c = kay_effect (control_of part.function) setting part
row_effect z Blank contents setting part c = blank_effect setting part
row_effect z Letter contents setting part c =
    letter_effect z (letter_action_of setting.directive) setting (part_word contents setting part c)
row_effect z Other contents setting part c = Refused BadRow

-- the result of reading a tape
pub data Verdict : Type 0 where
  Faulty : ℕ → TapeCause → Verdict
  Arrived : TapeEntry → Verdict

-- an item whose function row alone has been read
abbrev pub part_of : ℕ → PartialItem
part_of f = record { function = f; number = 0; mark = false; blank = nat_eq f 16 }

-- the directive and θ
abbrev pub setting_of : NotationState → DirectiveState
setting_of notation = record { directive = notation.directive; theta = notation.theta }

-- the state with its directive and θ set
abbrev pub set_by : DirectiveState → NotationState → NotationState
set_by setting notation = record { directive = setting.directive; theta = setting.theta; placed = notation.placed }

-- the state with a word placed
abbrev pub placed_by : ℕ → ℕ → NotationState → NotationState
placed_by at word notation = record {
  directive = notation.directive + 2;
  theta = notation.theta;
  placed = (at, word) ∷ notation.placed;
}

-- the entry at a row c that ends the entry item
abbrev pub entry_by : List ℕ → ℕ → ℕ → NotationState → PartialItem → ℕ → List ℕ → ℕ → TapeEntry
entry_by words row cost notation part c rest at = record {
  at = at;
  word = part_word (over notation.placed words) (setting_of notation) part c;
  cost = cost + 13;
  rows = row + 1;
  notation = notation;
  last = record { function = part.function; number = part.number; mark = part.mark; end = c };
  rest = rest;
}

-- the reading of these rows, between two items or inside one; the first of them is row number `row`
unfoldable pub reading_on : Size → List ℕ → ℕ → ℕ → NotationState → Option PartialItem → List ℕ → Verdict
reading_on z words row cost notation part [] = Faulty row EndOfTape
reading_on z words row cost notation None (f ∷ rows) =
    elim (nat_lt f 32) [
      | true ↦ reading_on z words (row + 1) (cost + 6) notation (Some (part_of f)) rows
      | false ↦ Faulty row BadRow
    ]
reading_on z words row cost notation (Some part) (c ∷ rows) =
    elim (row_effect z (row_kind c) (over notation.placed words) (setting_of notation) part c) [
      | Refused cause ↦ Faulty row cause
      | Longer longer k ↦ reading_on z words (row + 1) (cost + k) notation (Some longer) rows
      | Ended setting k ↦ reading_on z words (row + 1) (cost + k) (set_by setting notation) None rows
      | Placed at word ↦ reading_on z words (row + 1) (cost + 17) (placed_by at word notation) None rows
      | Entered at ↦ Arrived (entry_by words row cost notation part c rows at)
    ]

-- the number of an item so far is in range
abbrev pub IsPartial : Option PartialItem → Type 0
IsPartial None = Unit {0}
IsPartial (Some part) = part.number ≤ 32767

-- the reading and the rules over items agree on this tape, from this opening state
pub record ReadingIsRules (z : Size) (words : List ℕ) (start : NotationState) (base : ℕ) (rows : List ℕ) : Type 0 where
  pub faulty : (row : ℕ) (cause : TapeCause) → reading_on z words 0 base start None rows ≡ Faulty row cause
      → IsFault z words start rows row cause
  pub found : (row : ℕ) (cause : TapeCause) → IsFault z words start rows row cause
      → reading_on z words 0 base start None rows ≡ Faulty row cause
  pub well : (e : TapeEntry) → reading_on z words 0 base start None rows ≡ Arrived e → WellFormed z words start rows
  pub comes : (e : TapeEntry) → reading_on z words 0 base start None rows ≡ Arrived e
      → RowsReachEntry words start base rows e
  pub arrived : (e : TapeEntry) → WellFormed z words start rows → RowsReachEntry words start base rows e
      → reading_on z words 0 base start None rows ≡ Arrived e
  -- every tape is well formed and reaches an entry, or has a fault
  pub either : (WellFormed z words start rows × ((e : TapeEntry) × RowsReachEntry words start base rows e))
      ⊎ ((row : ℕ) × (cause : TapeCause) × IsFault z words start rows row cause)

-- that holds from every opening state whose directive is an order P, E or T
abbrev pub ReadingAlwaysIsRules : Type 0
ReadingAlwaysIsRules =
    (z : Size) (words : List ℕ) (start : NotationState) (base : ℕ) (rows : List ℕ) → IsDirective start.directive
    → ReadingIsRules z words start base rows
