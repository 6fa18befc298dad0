-- What a command answers: one outcome if it reads no input, else an outcome for each input (this project's own rules).
use Rattle.std.specs.Prelude.{◌≡◌, ◌⊎◌, ℕ, ◌≤◌, ◌<◌, Bool, true, false, List, length}
use Rattle.ed_codes.specs.Reading.{Reading, rows, no_row, open_comment, reading}
use Rattle.ed_codes.specs.declared.tape.TextFault.TheVariants.{NoRow, OpenComment}
use Rattle.ed_report.specs.Notes.{text_fault_line}
use Rattle.ed_words.specs.Texts.{Text}
use Rattle.ed_tapes.specs.declared.input.TheConstants.{INPUT_BYTES}
use Rattle.ed_tapes.specs.Outcome.{Outcome, refusal, too_long_outcome}

-- no input is read, and this is the outcome, or this says which outcomes it may be; or an input is read, and this says
-- which outcome an input of at most 262,144 bytes has
pub data Answer : Type 1 where
  known : Outcome → Answer
  of_made : (Outcome → Type 0) → Answer
  of_input : (Text → Outcome → Type 0) → Answer

-- the outcome that a function gives
abbrev pub exactly : {A : Type 0} → (A → Outcome) → A → Outcome → Type 0
exactly f x o = f x ≡ o

-- the outcome of a tape's text: that of its rows, or its refusal
abbrev pub OfReading : (List ℕ → Outcome → Type 0) → Reading → Outcome → Type 0
OfReading answers (rows codes) o = answers codes o
OfReading answers (no_row place byte) o = refusal (text_fault_line (NoRow place byte)) ≡ o
OfReading answers (open_comment place) o = refusal (text_fault_line (OpenComment place)) ≡ o

-- the input is the text of a tape, and this says which outcome its rows have
abbrev pub of_rows : (List ℕ → Outcome → Type 0) → Answer
of_rows answers = of_input (λ input. OfReading answers (reading input))

-- whether the input is read
abbrev pub reads_input : Answer → Bool
reads_input (known due) = false
reads_input (of_made answers) = false
reads_input (of_input answers) = true

-- the outcome of an input of at most 262,144 bytes, or of one that is too long
abbrev pub WithinLimit : (Text → Outcome → Type 0) → Text → Outcome → Type 0
WithinLimit answers input o = ((length input ≤ INPUT_BYTES) × answers input o)
    ⊎ ((INPUT_BYTES < length input) × (too_long_outcome ≡ o))

-- the outcome that is due for an input
abbrev pub IsDue : Answer → Text → Outcome → Type 0
IsDue (known due) input o = due ≡ o
IsDue (of_made answers) input o = answers o
IsDue (of_input answers) input o = WithinLimit answers input o

-- each input has exactly one outcome
pub record HasOneOutcome (answer : Answer) : Type 0 where
  pub some : (input : Text) → (o : Outcome) × IsDue answer input o
  pub once : (input : Text) (o other : Outcome) → IsDue answer input o → IsDue answer input other → o ≡ other
