-- The trace of orders: the letter or sign of each order's function, 50 to a line (this project's own rule).
use Rattle.std.specs.Prelude.{ℕ, zero, suc, ◌+◌, ◌%◌, Bool, true, false, nat_eq}
use Rattle.std.specs.Prelude.{if◌then◌else◌, List, [], ◌∷◌, ◌++◌, length}
use Rattle.ed_words.specs.Words.{function_of}
use Rattle.ed_codes.specs.Spelling.{byte_of}
use Rattle.ed_machine.specs.State.{State}
use Rattle.ed_machine.specs.OrderTable.{next_word}
use Rattle.ed_machine.specs.Steps.{state_after}

-- the functions of the first k orders from a state
unfoldable pub functions_after : ℕ → State → List ℕ
functions_after zero s = []
functions_after (suc k) s = functions_after k s ++ function_of (next_word (state_after k s)) ∷ []

-- whether n letters end with a full line
abbrev pub is_full : ℕ → Bool
is_full n = nat_eq (n % 50) 0

-- a line feed (10) after a full line
abbrev pub line_end : Bool → List ℕ
line_end true = 10 ∷ []
line_end false = []

-- the letter or sign of a function, which is the n-th of a trace
abbrev pub traced_letter : ℕ → ℕ → List ℕ
traced_letter n function = byte_of function false ∷ line_end (is_full n)

-- the letters of functions after n others
abbrev pub letters_from : ℕ → List ℕ → List ℕ
letters_from n [] = []
letters_from n (f ∷ fs) = traced_letter (n + 1) f ++ letters_from (n + 1) fs

-- a line feed after the last of n letters, unless its line is full
abbrev pub last_end : ℕ → List ℕ
last_end n = if is_full n then [] else 10 ∷ []

-- the trace of functions
abbrev pub trace_text : List ℕ → List ℕ
trace_text functions = letters_from 0 functions ++ last_end (length functions)
