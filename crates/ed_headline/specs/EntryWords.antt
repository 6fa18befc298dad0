-- The store at the entry of a source: below 44 the Initial Orders as they are then, and from there upwards the words of
-- its lines, each at its location, the parameters that its `use` lines set, and 0 in every other location (this
-- project's own rule).
use Rattle.std.specs.Prelude.{◌≡◌, ◌⊎◌, ℕ, ◌<◌, ◌≤◌, false, List, length, replicate, slice_index}
use Rattle.ed_words.specs.declared.size.Size.{Size}
use Rattle.ed_store.specs.Cells.{Cells, short_at}
use Rattle.ed_words.specs.Texts.{Text}
use Rattle.ed_lines.specs.declared.program.Line.{Line}
use Rattle.ed_symbols.specs.NameFaults.{IsLineAfter}
use Rattle.ed_headline.specs.Refusals.{IsAcceptedAs}
use Rattle.ed_link.specs.Words.{IsLastSet, LinePlaces, LineSets}
use Rattle.ed_headline.specs.EntryState.{entry_store, loader_words}

-- no line has a word at this location, and no `use` sets the parameter there
abbrev pub IsFreePlace : List Line → ℕ → Type 0
IsFreePlace lines place = (before : List Line) (l : Line) (word : ℕ) → IsLineAfter lines before l
    → LinePlaces lines before l place word ⊎ LineSets lines l place word → ⊥

-- a store at the entry: 1,024 words, those of the Initial Orders as they are then, the words of each line, the parameters
-- that are set last, and 0 elsewhere; every sandwich digit is 0
pub record IsEntryStore (lines : List Line) (c : Cells) : Type 0 where
  pub count : length c.words ≡ 1024
  pub loader : (place : ℕ) → place < 44 → short_at c place ≡ slice_index (loader_words lines) place
  pub lines_have : (before : List Line) (l : Line) (place word : ℕ) → IsLineAfter lines before l
      → LinePlaces lines before l place word → short_at c place ≡ word
  pub parameters_have : (before : List Line) (l : Line) (place word : ℕ) (s : IsLineAfter lines before l)
      → LineSets lines l place word → IsLastSet lines s.after place → short_at c place ≡ word
  pub free_have : (place : ℕ) → 44 ≤ place → place < 1024 → IsFreePlace lines place → short_at c place ≡ 0
  pub sandwich : c.sandwich ≡ replicate 512 false

-- the same for every source that is accepted
abbrev pub EachEntryStoreIs : Type 0
EachEntryStoreIs =
    (z : Size) (source : Text) (lines : List Line) → IsAcceptedAs z source lines → IsEntryStore lines (entry_store lines)
