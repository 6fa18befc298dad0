-- The faults of names and of meaning of a source, S6 to S17: one sentence for each, over the lines and their locations.
-- No sentence depends on another one, and none goes through the lines one by one (this project's own rule). The
-- sentences of S6 to S8 are those of names.
use Rattle.std.specs.Prelude.{◌≡◌, ◌⊎◌, ℕ, ◌+◌, ◌/◌, ◌%◌, ◌^◌, ◌<◌, ◌≤◌}
use Rattle.std.specs.Prelude.{List, length, map, Option, Some, None}
use Rattle.std.specs.List.{Contains}
use Rattle.ed_words.specs.declared.size.Size.{Size}
use Rattle.ed_words.specs.Sizes.{locations}
use Rattle.ed_library.specs.Entries.{entry}
use Rattle.ed_library.specs.Routines.{find}
use Rattle.ed_lines.specs.declared.program.Setting.{Setting}
use Rattle.ed_lines.specs.declared.program.Statement.{Statement}
use Rattle.ed_lines.specs.declared.program.Statement.TheVariants.{Order, Number, Text, Long, Fetch, Enter}
use Rattle.ed_lines.specs.declared.program.Statement.TheVariants.{Rows}
use Rattle.ed_lines.specs.declared.program.Line.{Line}
use Rattle.ed_lines.specs.declared.fault.SourceCause.{SourceCause}
use Rattle.ed_lines.specs.declared.fault.SourceCause.TheVariants as causes
use Rattle.ed_lines.specs.Causes.{IsLeastFault}
use Rattle.ed_symbols.specs.Names.{place_on}
use Rattle.ed_symbols.specs.Places.{segment_at}
use Rattle.ed_symbols.specs.NameFaults.{IsLineAfter, counter_after, DefinesAgain, NamesUnknown, ReachesOutside}
use Rattle.ed_link.specs.Linked.{first_place, end_place, symbols_of}

-- ---- the words of a line

-- the line after these lines has a word at this location
abbrev pub LineHasWord : List Line → Line → ℕ → Type 0
LineHasWord before l p = (first_place l.statement (counter_after before) ≤ p)
    × (p < end_place l.statement (counter_after before))

-- the line is an `enter` of a name with this location
abbrev pub EntersAt : List Line → Line → ℕ → Type 0
EntersAt lines l p = (name : List ℕ) × (l.statement ≡ Some (Enter name))
    × (place_on (symbols_of lines) None name ≡ Some p)

-- the line needs this location: for one of its words, or to enter there
abbrev pub NeedsPlace : List Line → List Line → Line → ℕ → Type 0
NeedsPlace lines before l p = LineHasWord before l p ⊎ EntersAt lines l p

-- ---- what a line says

-- the line is an `enter`
abbrev pub IsEnter : Line → Type 0
IsEnter l = (name : List ℕ) × (l.statement ≡ Some (Enter name))

-- some line is an `enter`
abbrev pub HasEnter : List Line → Type 0
HasEnter lines = (before : List Line) × (l : Line) × IsLineAfter lines before l × IsEnter l

-- an order, a `word`, a `text` or a `long`
abbrev pub PlacesWords : Option Statement → Type 0
PlacesWords (Some (Order function operand length)) = Unit {0}
PlacesWords (Some (Number value)) = Unit {0}
PlacesWords (Some (Text codes)) = Unit {0}
PlacesWords (Some (Long value)) = Unit {0}
PlacesWords st = ⊥

-- a `data`
abbrev pub IsData : Option Statement → Type 0
IsData (Some (Rows codes)) = Unit {0}
IsData st = ⊥

-- the letter of a setting
abbrev pub letter_set : Setting → ℕ
letter_set t = t.letter

-- ---- the faults

-- S9: a label, an order, `word`, `text` or `long` where no segment is open
abbrev pub IsOutsideSegments : List Line → Line → Type 0
IsOutsideSegments before l = (segment_at (counter_after before) ≡ None)
    × (((name : List ℕ) × (l.label ≡ Some name)) ⊎ PlacesWords l.statement)

-- S10 and S11: a word of the line, or the location that an `enter` names, is at `from` or above and below `below`
abbrev pub NeedsWithin : List Line → List Line → Line → ℕ → ℕ → Type 0
NeedsWithin lines before l from below = (p : ℕ) × NeedsPlace lines before l p × (from ≤ p) × (p < below)

-- S12: a word of the line, or the location that an `enter` names, is at `from`, the size of the store, or above
abbrev pub NeedsPast : List Line → List Line → Line → ℕ → Type 0
NeedsPast lines before l from = (p : ℕ) × NeedsPlace lines before l p × (from ≤ p)

-- S13: a word of the line is at the location of a word of an earlier line
abbrev pub Overlaps : List Line → Line → Type 0
Overlaps before l = (p : ℕ) × LineHasWord before l p
    × (earlier : List Line) × (e : Line) × IsLineAfter before earlier e × LineHasWord earlier e p

-- S14: a `use` of a name that isn't in the catalogue
abbrev pub UsesUnknown : Option Statement → Type 0
UsesUnknown (Some (Fetch routine name settings)) = find routine ≡ None
UsesUnknown st = ⊥

-- exactly these letters are set, each once: as many settings as letters, and each letter is set
pub record SetExactly (letters set : List ℕ) : Type 0 where
  pub as_many : length set ≡ length letters
  pub each : (c : ℕ) → Contains letters c → Contains set c

-- S15: the routine is known, and the letters set aren't exactly its parameters, each once
abbrev pub SetsOtherwise : Option Statement → Type 0
SetsOtherwise (Some (Fetch routine name settings)) = (r : ℕ) × (find routine ≡ Some r)
    × (SetExactly (entry r).parameters (map letter_set settings.items) → ⊥)
SetsOtherwise st = ⊥

-- S16: any form but `data` after an `enter`; `data` with no `enter` before it, in a source that has one
abbrev pub IsMisplaced : List Line → List Line → Line → Type 0
IsMisplaced lines before l =
    (HasEnter before × ((l.label ≡ None) × (l.statement ≡ None) → ⊥) × (IsData l.statement → ⊥))
    ⊎ ((HasEnter before → ⊥) × IsData l.statement × HasEnter lines)

-- S17: a `long` whose sandwich digit, between its two halves, is 1
abbrev pub HasSandwichDigit : Line → Type 0
HasSandwichDigit l = (v : ℕ) × (l.statement ≡ Some (Long v)) × (v / 2 ^ 17 % 2 ≡ 1)

-- the line after these lines has the fault; S1 to S5 are faults of form, which no line of a program has
abbrev pub LineHasCause : Size → List Line → List Line → Line → SourceCause → Type 0
LineHasCause z lines before l causes.LabelTwice = DefinesAgain before l
LineHasCause z lines before l causes.LabelUnknown = NamesUnknown lines before l
LineHasCause z lines before l causes.AddressRange = ReachesOutside lines before l
LineHasCause z lines before l causes.OutsideSegment = IsOutsideSegments before l
LineHasCause z lines before l causes.LoaderStore = NeedsWithin lines before l 0 44
LineHasCause z lines before l causes.ParameterStore = NeedsWithin lines before l 44 56
LineHasCause z lines before l causes.StoreEnd = NeedsPast lines before l (locations z)
LineHasCause z lines before l causes.Overlap = Overlaps before l
LineHasCause z lines before l causes.NoSuchRoutine = UsesUnknown l.statement
LineHasCause z lines before l causes.Parameters = SetsOtherwise l.statement
LineHasCause z lines before l causes.Enter = IsMisplaced lines before l
LineHasCause z lines before l causes.SandwichDigit = HasSandwichDigit l
LineHasCause z lines before l cause = ⊥

-- ---- the fault of a source

-- the source has the fault at the line with this number, counted from 1
pub data SourceHasFault (z : Size) (lines : List Line) : ℕ → SourceCause → Type 0 where
  on_line : {before : List Line} {l : Line} {cause : SourceCause} → IsLineAfter lines before l
      → LineHasCause z lines before l cause → SourceHasFault z lines (length before + 1) cause
  -- S16 too, at the number of lines plus 1: no line is an `enter`
  no_enter : (HasEnter lines → ⊥) → SourceHasFault z lines (length lines + 1) causes.Enter

-- the fault of meaning of a source
abbrev pub IsMeaningFault : Size → List Line → ℕ → SourceCause → Type 0
IsMeaningFault z lines = IsLeastFault (SourceHasFault z lines)

-- the source has no fault of meaning
abbrev pub HasNoFault : Size → List Line → Type 0
HasNoFault z lines = (k : ℕ) (cause : SourceCause) → SourceHasFault z lines k cause → ⊥
