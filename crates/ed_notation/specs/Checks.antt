-- The answers of a check.
use Rattle.std.specs.Prelude.{ℕ, ◌≡◌, ◌<◌, Bool, true, false, List, [], ◌∷◌, slice_index}
use Rattle.std.specs.Prelude.{slice_set, replicate, Result, Ok, Err, length, unwrap_or}
use Rattle.ed_words.specs.declared.size.Size.{Size}
use Rattle.ed_notation.specs.declared.reader.Reached.{Reached}
use Rattle.ed_notation.specs.declared.cause.TapeFault.{TapeFault}
use Rattle.ed_notation.specs.declared.cause.TapeFault.TheVariants.{At, Memory}
use Rattle.ed_notation.specs.Fold.{NotationState, placed_at, over}
use Rattle.ed_notation.specs.Openings.{opening_with}
use Rattle.ed_notation.specs.Faults.{TapeEntry, IsFault, WellFormed, RowsReachEntry, EndsSound, AreSound}
use Rattle.ed_notation.specs.Reports.{Report, word_in}

-- the answer for a well-formed tape: no rule is broken at any row; the first rows spell items that the fold takes
-- without a fault, and only the last is an entry item; the report is what their fold gives
pub record Accepts (z : Size) (words : List ℕ) (start : NotationState) (base : ℕ) (rows : List ℕ) (r : Report) :
    Type 0 where
  pub well : WellFormed z words start rows
  pub entry : TapeEntry
  pub comes : RowsReachEntry words start base rows entry
  pub sound : AreSound z words start comes.before
  pub last_sound : EndsSound z words entry.notation comes.last
  pub entry_is : r.entry ≡ entry.at
  pub orders_are : r.orders ≡ entry.cost
  pub rows_are : r.rows ≡ entry.rows
  pub theta_is : r.theta ≡ entry.notation.theta
  pub map_is : (a : ℕ) → a < 1024 → word_in r a ≡ placed_at entry.notation.placed a

-- the answer is that for a well-formed tape, or the fault, or that no memory was found
abbrev pub AnswersCheck : Size → List ℕ → NotationState → ℕ → List ℕ → Result Report TapeFault → Type 0
AnswersCheck z words start base rows (Ok r) = Accepts z words start base rows r
AnswersCheck z words start base rows (Err (At row cause)) = IsFault z words start rows row cause
AnswersCheck z words start base rows (Err Memory) = Unit {0}

-- for each location, whether a word was placed there
abbrev pub marks_of : List (ℕ × ℕ) → List Bool
marks_of [] = replicate 1024 false
marks_of (p ∷ placed) = slice_set (marks_of placed) p.0 true

-- all words are placed at locations of the store
abbrev pub ArePlaces : List (ℕ × ℕ) → Type 0
ArePlaces [] = Unit {0}
ArePlaces (p ∷ placed) = (p.0 < 1024) × ArePlaces placed

-- the content of a location is the word that was placed there, or the store's if none was
abbrev pub ContentIsMapOrStore : Type 0
ContentIsMapOrStore =
    (words : List ℕ) → length words ≡ 1024 → (placed : List (ℕ × ℕ)) (a : ℕ) → ArePlaces placed
    → slice_index (over placed words) a ≡ unwrap_or (placed_at placed a) (slice_index words a)

-- the state after the reading of a well-formed tape: the contents of all locations, and where words were placed
pub record Arrives (z : Size) (words : List ℕ) (start : NotationState) (base : ℕ) (rows : List ℕ) (r : Reached)
    (contents : List ℕ) (marks : List Bool) : Type 0 where
  pub well : WellFormed z words start rows
  pub entry : TapeEntry
  pub comes : RowsReachEntry words start base rows entry
  pub entry_is : r.entry ≡ entry.at
  pub orders_are : r.orders ≡ entry.cost
  pub rows_are : r.rows ≡ entry.rows
  pub theta_is : r.theta ≡ entry.notation.theta
  pub contents_are : contents ≡ over entry.notation.placed words
  pub marks_are : marks ≡ marks_of entry.notation.placed
  pub places : ArePlaces entry.notation.placed
  pub locations_are : length words ≡ 1024

-- the answer of a reading on a copy of the store, and the state of that copy after it
abbrev pub ReadsCopy : Size → List ℕ → ℕ → ℕ → List ℕ → Result Reached TapeFault → List ℕ → List Bool → Type 0
ReadsCopy z words directive base rows (Ok r) contents marks =
    Arrives z words (opening_with directive words) base rows r contents marks
ReadsCopy z words directive base rows (Err (At row cause)) contents marks =
    IsFault z words (opening_with directive words) rows row cause
ReadsCopy z words directive base rows (Err Memory) contents marks = ⊥
