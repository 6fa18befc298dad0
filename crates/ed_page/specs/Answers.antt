-- The answers to the page: what the program answers to the same text, with the cause of each answer (this project's own
-- rules).
use Rattle.std.specs.Prelude.{◌≡◌, ◌≢◌, ◌⊎◌, ℕ, ◌<◌, ◌≤◌, List, ◌++◌, length, drop, None}
use Rattle.ed_codes.specs.Reading.{reading, rows}
use Rattle.ed_machine.specs.State.{State}
use Rattle.ed_lines.specs.declared.program.Line.{Line}
use Rattle.ed_headline.specs.Refusals.{IsAcceptedAs}
use Rattle.ed_link.specs.Tapes.{tape}
use Rattle.ed_words.specs.Texts.{Text}
use Rattle.ed_tapes.specs.declared.input.TheConstants.{INPUT_BYTES}
use Rattle.ed_tapes.specs.Outcome.{Outcome, done, too_long}
use Rattle.ed_tapes.specs.Answer.{Answer, IsDue}
use Rattle.ed_tapes.specs.Runs.{run_of}
use Rattle.ed_run.specs.Run.{RunEnd}
use Rattle.ed_run.specs.declared.settings.Settings.{Settings}
use Rattle.ed_page.specs.Pictures.{Pictures, last_shown}
use Rattle.ed_page.specs.declared.writing.Lengths.{Lengths}
use Rattle.ed_page.specs.declared.writing.Registers.{Registers}

-- ---- texts in buffers

-- a text was written at the beginning of a buffer, whose other bytes are unchanged, and this is its length
abbrev pub Holds : Text → (before after : List ℕ) → ℕ → Type 0
Holds text before after n = (n ≡ length text) × (after ≡ text ++ drop (length text) before)

-- both texts of an outcome were written at the beginnings of two buffers, and the answer is its status
pub record HoldsText (o : Outcome) (out note out_after note_after : List ℕ) (printed noted answer : ℕ) : Type 0 where
  pub out_is : Holds o.out out out_after printed
  pub note_is : Holds o.note note note_after noted
  pub status_is : answer ≡ o.status

-- two buffers have room for both texts of an outcome
pub record HasBufferRoom (o : Outcome) (out note : List ℕ) : Type 0 where
  pub out_fits : length o.out ≤ length out
  pub note_fits : length o.note ≤ length note

-- ---- causes

-- an answer has its cause: with 12 there is no room, and the buffers are unchanged; with any other answer there is
-- room, and this is shown
pub record HasItsCause (Room Kept Shown : Type 0) (answer : ℕ) : Type 0 where
  pub no_room : answer ≡ 12 → Room → ⊥
  pub kept : answer ≡ 12 → Kept
  pub shown : answer ≢ 12 → Room × Shown

-- ---- texts

-- the buffers of two texts
pub record TextBuffers : Type 0 where
  pub out : List ℕ
  pub note : List ℕ
  pub lengths : Lengths

-- two buffers and the lengths of their texts, as one
abbrev pub text_buffers : (out note : List ℕ) → Lengths → TextBuffers
text_buffers out note lengths = record { out = out; note = note; lengths = lengths }

-- a text is too long, and the buffer of the note has no room for the line that says so
abbrev pub LacksLine : Text → List ℕ → Type 0
LacksLine text note = (INPUT_BYTES < length text) × (length note < length too_long)

-- what the program answers to a text, written into two buffers; or no memory was found (10), and the buffers are
-- unchanged. 12 comes first if no memory is needed to see that there is no room
pub record IsTextWritten (wanted : Answer) (text : Text) (before after : TextBuffers) (answer : ℕ) : Type 0 where
  pub memory : answer ≡ 10 → after ≡ before
  pub told : answer ≢ 10 → (o : Outcome) × IsDue wanted text o
      × HasItsCause (HasBufferRoom o before.out before.note) (after ≡ before)
      (HoldsText o before.out before.note after.out after.note after.lengths.out after.lengths.note answer) answer
  pub early : LacksLine text before.note → answer ≡ 12

-- the rows of a source's tape
abbrev pub source_rows : List Line → Outcome
source_rows lines = done (tape lines)

-- ---- pictures

-- a text spells rows, and their run ends in a state
abbrev pub RowsEnd : (run : List ℕ → RunEnd) → Text → State → Type 0
RowsEnd run text m = (codes : List ℕ) × (reading text ≡ rows codes) × (m ≡ (run codes).state)

-- the run of a source's tape ends in a state
abbrev pub SourceEnds : Settings → Text → State → Type 0
SourceEnds s text m =
    (lines : List Line) × IsAcceptedAs s.size text lines × (m ≡ (run_of s (tape lines)).state)

-- the buffers of a picture
pub record Buffers : Type 0 where
  pub words : List ℕ
  pub digits : List ℕ
  pub paper : List ℕ
  pub note : List ℕ
  pub registers : Registers

-- five buffers as one
abbrev pub picture_buffers : (words digits paper note : List ℕ) → Registers → Buffers
picture_buffers words digits paper note registers =
    record { words = words; digits = digits; paper = paper; note = note; registers = registers }

-- buffers have room for a picture
pub record HasPictureRoom (o : Outcome) (b : Buffers) : Type 0 where
  pub words_are : length b.words ≡ 1024
  pub digits_are : length b.digits ≡ 512
  pub texts : HasBufferRoom o b.paper b.note

-- the registers if no machine is shown: no code was printed, and all others are 0 but the lengths of the two texts
abbrev pub blank_registers : (printed noted : ℕ) → Registers
blank_registers printed noted = record {
  acc_low = 0;
  acc_high = 0;
  multiplier = 0;
  orders = 0;
  rows_left = 0;
  counter = 0;
  last = last_shown None;
  printed = printed;
  noted = noted;
}

-- no machine is shown: the words and digits are unchanged, and the registers are blank
pub record ShowsNone (before after : Buffers) : Type 0 where
  pub words_are : after.words ≡ before.words
  pub digits_are : after.digits ≡ before.digits
  pub registers_are : after.registers ≡ blank_registers after.registers.printed after.registers.noted

-- buffers show an outcome, and the state in which the run of a text that is not too long ends; if no run of it ends,
-- they show no machine
pub record Shows (Ends : Text → State → Type 0) (text : Text) (o : Outcome) (before after : Buffers) (answer : ℕ) :
    Type 0 where
  pub told : HoldsText o before.paper before.note after.paper after.note after.registers.printed after.registers.noted
      answer
  pub state : length text ≤ INPUT_BYTES → (m : State) → Ends text m → Pictures m after.words after.digits after.registers
  pub none : ((m : State) → length text ≤ INPUT_BYTES → Ends text m → ⊥) → ShowsNone before after

-- a buffer of the store has the wrong length, or a text is too long and the line that says so has no room
abbrev pub LacksRoom : Text → Buffers → Type 0
LacksRoom text b = (length b.words ≢ 1024) ⊎ ((length b.digits ≢ 512) ⊎ LacksLine text b.note)

-- what the program answers to a text, and the state in which its run ends, written into buffers; or no memory was
-- found (10), and the buffers are unchanged. 12 comes first if no memory is needed to see that there is no room
pub record IsShown (wanted : Answer) (Ends : Text → State → Type 0) (text : Text) (before after : Buffers)
    (answer : ℕ) : Type 0 where
  pub memory : answer ≡ 10 → after ≡ before
  pub told : answer ≢ 10 → (o : Outcome) × IsDue wanted text o
      × HasItsCause (HasPictureRoom o before) (after ≡ before) (Shows Ends text o before after answer) answer
  pub early : LacksRoom text before → answer ≡ 12

-- ---- the tape of a picture

-- rows are the end of others
abbrev pub IsEndOf : (left all : List ℕ) → Type 0
IsEndOf left all = (read : List ℕ) × (read ++ left ≡ all)

-- the rows left at the end of a tape's run are the end of the tape's rows, for the run with the 41 Initial Orders or
-- that with the 31 of May 1949
abbrev pub EachRunReadsOn : (run : Settings → List ℕ → RunEnd) → Type 0
EachRunReadsOn run = (s : Settings) (codes : List ℕ) → IsEndOf (run s codes).state.tape codes
