-- A text that grows letter by letter and is written line by line.
use Rattle.std.specs.Prelude.{ℕ, ◌≡◌, ◌-◌, ◌%◌, ◌<◌, Bool, true, false, List, [], ◌∷◌, ◌++◌, length}
use Rattle.std.specs.Prelude.{Option, None, Result, Ok, Err}
use Rattle.ed_codes.specs.Spelling.{byte_of}
use Rattle.ed_words.specs.Words.{function_of}
use Rattle.ed_machine.specs.State.{State}
use Rattle.ed_machine.specs.OrderTable.{next_word}
use Rattle.ed_machine.specs.Steps.{progress, state_after}
use Rattle.ed_machine.specs.declared.ending.Ending.{Ending}
use Rattle.ed_run.specs.Run.{EndsAfter, end_at}
use Rattle.ed_io.specs.Bytes.{Gains, GainsPart}
use Rattle.ed_io.specs.declared.device.Failed.{Failed}
use Rattle.ed_report.specs.Traces.{functions_after, letters_from}

-- the letter of the order at the counter
abbrev pub letter : State → ℕ
letter s = byte_of (function_of (next_word s)) false

-- the letters of the first k orders, with a line feed after each full line
abbrev pub traced_letters : ℕ → State → List ℕ
traced_letters k s = letters_from 0 (functions_after k s)

-- how many of the first k orders have their letters in full lines
abbrev pub orders_in_full_lines : ℕ → ℕ
orders_in_full_lines k = k - k % 50

-- the first k orders are traced: their full lines have been written, and the last line, if not full, is held back
pub record Lines (k : ℕ) (s : State) (before after : Option (List ℕ)) (held : List ℕ) : Type 0 where
  pub gains : Gains before after (traced_letters (orders_in_full_lines k) s)
  pub whole : traced_letters k s ≡ traced_letters (orders_in_full_lines k) s ++ held
  pub few : length held ≡ k % 50

-- a letter was added to a line; if that filled the line, it was written
abbrev pub Puts : Bool → Result (Unit {0}) Failed → Option (List ℕ) → Option (List ℕ) → List ℕ → ℕ → List ℕ → Type 0
Puts true (Ok u) old new line letter left = Gains old new (line ++ letter ∷ 10 ∷ []) × (left ≡ [])
Puts true (Err e) old new line letter left = GainsPart old new (line ++ letter ∷ 10 ∷ [])
Puts false (Ok u) old new line letter left = (new ≡ old) × (left ≡ line ++ letter ∷ [])
Puts false (Err e) old new line letter left = ⊥

-- the last line was written, if it had a letter
abbrev pub EndsLine : List ℕ → Result (Unit {0}) Failed → Option (List ℕ) → Option (List ℕ) → Type 0
EndsLine [] (Ok u) old new = new ≡ old
EndsLine [] (Err e) old new = ⊥
EndsLine (l ∷ line) (Ok u) old new = Gains old new ((l ∷ line) ++ 10 ∷ [])
EndsLine (l ∷ line) (Err e) old new = GainsPart old new ((l ∷ line) ++ 10 ∷ [])

-- the run ended this way, and its letters have been written, except for a last line that is not full
pub record Traces (limit resumes : ℕ) (s : State) (ending : Ending) (last : State) (before after : Option (List ℕ))
    (held : List ℕ) : Type 0 where
  pub orders : ℕ
  pub ends : EndsAfter limit resumes limit s orders ending
  pub state_is : last ≡ state_after orders s
  pub lines : Lines orders s before after held

-- before the run ended, the write of the line that was full after k orders failed
pub record BreaksTrace (limit resumes : ℕ) (s last : State) (before after : Option (List ℕ)) : Type 0 where
  pub orders : ℕ
  pub some : 0 < orders
  pub full : orders % 50 ≡ 0
  pub first : (j : ℕ) → j < orders → end_at limit resumes limit j (progress j s) ≡ None
  pub state_is : last ≡ state_after orders s
  pub part : List ℕ
  pub rest : List ℕ
  pub line : traced_letters orders s ≡ traced_letters (orders - 50) s ++ (part ++ rest)
  pub gains : Gains before after (traced_letters (orders - 50) s ++ part)
