-- Continuing from a picture: the states that buffers picture, what they hold after more orders, and the text of the
-- codes that were printed (this project's own rules).
use Rattle.std.specs.Prelude.{◌≡◌, ◌≢◌, ℕ, ◌+◌, ◌-◌, ◌<◌, ◌≤◌, ◌⊎◌, Bool, false, List, ◌++◌, length, reverse}
use Rattle.std.specs.Prelude.{slice_index}
use Rattle.ed_words.specs.Texts.{Text}
use Rattle.ed_printer.specs.Paper.{latest_shift, paper, paper_from}
use Rattle.ed_machine.specs.State.{State}
use Rattle.ed_machine.specs.Steps.{Progress, progress, state_after}
use Rattle.ed_run.specs.Run.{RunEnd, run_end, run_orders}
use Rattle.ed_run.specs.declared.settings.Settings.{Settings}
use Rattle.ed_initial.specs.Entry.{first_state}
use Rattle.ed_tapes.specs.declared.input.TheConstants.{INPUT_BYTES}
use Rattle.ed_tapes.specs.FirstOrders.{first_state1, run1_of}
use Rattle.ed_tapes.specs.Runs.{paper_room, run_of, status_of}
use Rattle.ed_page.specs.Answers.{HasItsCause, Holds}
use Rattle.ed_page.specs.Pictures.{Pictures, size_shown}
use Rattle.ed_page.specs.declared.writing.Registers.{Registers}

-- ---- the states on the way

-- a state after Start on the rows of a tape: with the 41 Initial Orders on a machine of this size, or with the 31 of
-- May 1949 on one of full size
abbrev pub IsAfterStart : (small : Bool) (rows : List ℕ) → State → Type 0
IsAfterStart small rows s = (s ≡ first_state (size_shown small) rows) ⊎ ((small ≡ false) × (s ≡ first_state1 rows))

-- each number is a code
abbrev pub AreCodes : List ℕ → Type 0
AreCodes codes = (i : ℕ) → slice_index codes i < 32

-- buffers picture the state after some number of orders from a first one, on the way of a tape with these rows
pub record IsOnTheWay (first : State) (rows words digits : List ℕ) (registers : Registers) : Type 0 where
  pub rows_are : AreCodes rows
  pub orders : ℕ
  pub pictured : Pictures (state_after orders first) words digits registers

-- the same from Start on these rows, with one of the two Initial Orders
pub record CanGoOn (small : Bool) (rows words digits : List ℕ) (registers : Registers) : Type 0 where
  pub first : State
  pub begins : IsAfterStart small rows first
  pub way : IsOnTheWay first rows words digits registers

-- a picture that was written for a text is on the way from a first state, if these are the rows of its tape
abbrev pub BeginsOnTheWay :
    (first : State) (rows : List ℕ) (text : Text) (words digits : List ℕ) → Registers → (answer : ℕ) → Type 0
BeginsOnTheWay first rows text words digits registers answer =
    length text ≤ INPUT_BYTES → answer ≢ 10 → answer ≢ 12 → IsOnTheWay first rows words digits registers

-- ---- the result of continuing

-- the buffers of a call that continues; the room for codes is the paper that is left
pub record GoingBuffers : Type 0 where
  pub words : List ℕ
  pub digits : List ℕ
  pub codes : List ℕ
  pub registers : Registers

-- four buffers as one
abbrev pub going_buffers : (words digits codes : List ℕ) → Registers → GoingBuffers
going_buffers words digits codes registers =
    record { words = words; digits = digits; codes = codes; registers = registers }

-- the buffers of the store have their lengths
abbrev pub HasStoreRoom : GoingBuffers → Type 0
HasStoreRoom b = (length b.words ≡ 1024) × (length b.digits ≡ 512)

-- buffers show where a run ended: its state, the codes that it printed at the beginning of theirs, their number, and
-- the status of its ending; there is no note
pub record ShowsRun (r : RunEnd) (before after : GoingBuffers) (answer : ℕ) : Type 0 where
  pub state : Pictures r.state after.words after.digits after.registers
  pub codes : Holds r.codes before.codes after.codes after.registers.printed
  pub noted : after.registers.noted ≡ 0
  pub status : answer ≡ status_of r.ending

-- a run was written into buffers; or no memory was found (10), and the buffers are unchanged. 12 comes first, exactly
-- if a buffer of the store has the wrong length
pub record IsRunResumed (r : RunEnd) (before after : GoingBuffers) (answer : ℕ) : Type 0 where
  pub memory : answer ≡ 10 → after ≡ before
  pub gone : answer ≢ 10 → HasItsCause (HasStoreRoom before) (after ≡ before) (ShowsRun r before after answer) answer
  pub early : (HasStoreRoom before → ⊥) → answer ≡ 12

-- ---- laws

-- a run that follows orders: what they printed comes first
abbrev pub run_following : Progress → RunEnd → RunEnd
run_following p r = record { ending = r.ending; state = r.state; codes = p.codes ++ r.codes }

-- Wherever a run ended, continuing from there is the one run from the beginning: with the orders that the first part
-- obeyed and those of the second, the resumes that it used and those of the second, and the paper that it left. What a
-- program shows of a tape is the run from Start, with either Initial Orders, and where it ends is on the way; so is
-- where any run from there ends.
pub record GoingLaw : Type 0 where
  pub goes_on : (limit resumes room orders more : ℕ) (s : State)
      → let k = run_orders limit resumes room s in
      let first = run_end limit resumes room s in
      run_end (k + orders) ((progress k s).stops + more) room s
      ≡ run_following (progress k s) (run_end orders more (room - length first.codes) first.state)
  pub from_start : (s : Settings) (codes : List ℕ)
      → run_of s codes ≡ run_end s.limit s.resumes paper_room (state_after 0 (first_state s.size codes))
  pub from_start1 : (s : Settings) (codes : List ℕ)
      → run1_of s codes ≡ run_end s.limit s.resumes paper_room (state_after 0 (first_state1 codes))
  pub stays : (first : State) (k limit resumes room : ℕ)
      → (j : ℕ) × ((run_end limit resumes room (state_after k first)).state ≡ state_after (k + j) first)

-- ---- the text of codes

-- the text that codes add to the paper after others: it is printed in the shift that these leave
abbrev pub added_text : (before codes : List ℕ) → Text
added_text before codes = paper_from (latest_shift (reverse before)) codes

-- a paper is the text of its first codes, and what the others add
abbrev pub PaperLaw : Type 0
PaperLaw = (before codes : List ℕ) → paper (before ++ codes) ≡ paper before ++ added_text before codes

-- the text that codes add was written at the beginning of a buffer, with its length, and the answer is 0; or there was
-- no room (12) or no memory (10), and nothing was written
pub record IsPaperWritten (before codes buffer after : List ℕ) (n n_after answer : ℕ) : Type 0 where
  pub memory : answer ≡ 10 → (after ≡ buffer) × (n_after ≡ n)
  pub told : answer ≢ 10 → HasItsCause (length (added_text before codes) ≤ length buffer)
      ((after ≡ buffer) × (n_after ≡ n))
      (Holds (added_text before codes) buffer after n_after × (answer ≡ 0)) answer
