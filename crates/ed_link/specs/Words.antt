-- The words of a linked program: those of its lines, each at its location, and the parameters that its `use` lines set
-- (this project's own rule).
use Rattle.std.specs.Prelude.{◌≡◌, ◌⊎◌, ℕ, ◌+◌, ◌*◌, ◌<◌, ◌≤◌, List, [], length, map, reverse, slice_index}
use Rattle.std.specs.Prelude.{Option, Some, None, is_some}
use Rattle.std.specs.List.{Contains, filter, range_with_len}
use Rattle.ed_words.specs.declared.size.Size.{Size}
use Rattle.ed_words.specs.Sizes.{locations}
use Rattle.ed_notation.specs.Fold.{placed_at}
use Rattle.ed_library.specs.Entries.{entry}
use Rattle.ed_library.specs.Images.{routine_word}
use Rattle.ed_library.specs.Routines.{find, table_item}
use Rattle.ed_lines.specs.declared.program.Operand.{Operand}
use Rattle.ed_lines.specs.declared.program.Setting.{Setting}
use Rattle.ed_lines.specs.declared.program.Statement.{Statement}
use Rattle.ed_lines.specs.declared.program.Statement.TheVariants.{Fetch}
use Rattle.ed_lines.specs.declared.program.Line.{Line}
use Rattle.ed_symbols.specs.declared.location_counter.LocationCounter.{LocationCounter}
use Rattle.ed_symbols.specs.declared.symbols.Definition.{Definition}
use Rattle.ed_symbols.specs.Places.{even_from}
use Rattle.ed_symbols.specs.NameFaults.{IsLineAfter, counter_after}
use Rattle.ed_link.specs.Faults.{HasNoFault}
use Rattle.ed_link.specs.Linked.{first_place, symbols_of, line_words, linked_words, operand_number, parameter_letters}
use Rattle.ed_link.specs.Linked.{parameters, set_to}

-- the words of a routine at a base, with the parameters that are set
abbrev pub routine_words : List Definition → List Setting → ℕ → Option ℕ → List ℕ
routine_words symbols ts base None = []
routine_words symbols ts base (Some r) =
    map (λ row. routine_word (parameters symbols ts) base (table_item row)) (entry r).items

-- the words of a line, one for each of its locations; those of a `use` are its routine's
abbrev pub words_of_line : List Definition → LocationCounter → Option Statement → List ℕ
words_of_line symbols s (Some (Fetch routine name ts)) =
    routine_words symbols ts.items (even_from s.place) (find routine)
words_of_line symbols s st = line_words symbols s st

-- the line after these lines has this word at this location
pub record LinePlaces (lines before : List Line) (l : Line) (place word : ℕ) : Type 0 where
  pub index : ℕ
  pub below : index < length (words_of_line (symbols_of lines) (counter_after before) l.statement)
  pub place_is : place ≡ first_place l.statement (counter_after before) + index
  pub word_is : word ≡ slice_index (words_of_line (symbols_of lines) (counter_after before) l.statement) index

-- the line is a `use` that sets the parameter at this location to this word
pub record LineSets (lines : List Line) (l : Line) (place word : ℕ) : Type 0 where
  pub routine : List ℕ
  pub name : List ℕ
  pub settings : List Setting
  pub letter : ℕ
  pub operand : Operand
  pub statement_is : l.statement ≡ Some (Fetch routine name (record { items = settings }))
  pub is_letter : Contains parameter_letters letter
  pub set : set_to settings letter ≡ Some operand
  pub place_is : place ≡ 24 + letter
  pub word_is : word ≡ 2 * operand_number (symbols_of lines) None operand

-- the word of the linked program at a location, if it has one there
abbrev pub linked_word : List Line → ℕ → Option ℕ
linked_word lines place = placed_at (reverse (linked_words lines)) place

-- the locations at which the linked program has a word, in ascending order
unfoldable pub linked_places : List Line → List ℕ
linked_places lines = filter (λ place. is_some (linked_word lines place)) (range_with_len 0 1024)

-- no line after this one sets the parameter at this location
abbrev pub IsLastSet : List Line → List Line → ℕ → Type 0
IsLastSet lines after place =
    (before : List Line) (l : Line) (word : ℕ) → IsLineAfter after before l → LineSets lines l place word → ⊥

-- the words of the linked program: each line has its words at its locations, the last `use` that sets a parameter
-- decides it, no other location has a word, and each location is in the store
pub record WordsStand (z : Size) (lines : List Line) : Type 0 where
  pub stands : (before : List Line) (l : Line) (place word : ℕ) → IsLineAfter lines before l
      → LinePlaces lines before l place word → linked_word lines place ≡ Some word
  pub sets : (before : List Line) (l : Line) (place word : ℕ) (s : IsLineAfter lines before l)
      → LineSets lines l place word → IsLastSet lines s.after place → linked_word lines place ≡ Some word
  pub only : (place word : ℕ) → linked_word lines place ≡ Some word
      → (before : List Line) × (l : Line) × IsLineAfter lines before l
      × (LinePlaces lines before l place word ⊎ LineSets lines l place word)
  pub within : (place word : ℕ) → linked_word lines place ≡ Some word → (44 ≤ place) × (place < locations z)

-- every source without a fault of meaning has its words this way
abbrev pub EachWordStands : Type 0
EachWordStands = (z : Size) (lines : List Line) → HasNoFault z lines → WordsStand z lines
