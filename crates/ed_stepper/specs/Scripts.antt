-- What a script does, and what it writes (this project's own rules).
use Rattle.std.specs.Prelude.{ℕ, ◌≡◌, ◌+◌, ◌-◌, Bool, false, nat_lt}
use Rattle.std.specs.Prelude.{if◌then◌else◌, List, [], ◌∷◌, ◌++◌, codes}
use Rattle.std.specs.Prelude.{Option, Some, None, Result, Ok, Err, Vec}
use Rattle.std.specs.List.{range_with_len}
use Rattle.std.specs.Fmt.{decimal}
use Rattle.std.specs.declared.alloc.Global.{Global}
use Rattle.ed_words.specs.Texts.{Text}
use Rattle.ed_report.specs.Listings.{listing}
use Rattle.ed_report.specs.Traces.{functions_after, trace_text}
use Rattle.ed_stepper.specs.MoveEnds.{move_end, move_orders}
use Rattle.ed_stepper.specs.Sessions.{Stand, left, stands_at}
use Rattle.ed_stepper.specs.ScriptLines.{IsFirstBadLine, OfScript}
use Rattle.ed_stepper.specs.declared.commands.SessionCommand.{SessionCommand}
use Rattle.ed_stepper.specs.declared.commands.SessionCommand.TheVariants.{Nothing, Move, Back, Trace, Show}
use Rattle.ed_stepper.specs.declared.commands.SessionCommand.TheVariants.{Accumulator, Multiplier, LastPrinted}
use Rattle.ed_stepper.specs.declared.moves.MoveTarget.{MoveTarget}
use Rattle.ed_stepper.specs.declared.moves.MoveTarget.TheVariants.{Orders}
use Rattle.ed_stepper.specs.declared.moves.MoveEnd.{MoveEnd}
use Rattle.ed_stepper.specs.declared.moves.MoveEnd.TheVariants as ends
use Rattle.ed_stepper.specs.declared.script.ScriptFault.{ScriptFault}
use Rattle.ed_stepper.specs.declared.script.ScriptFault.TheVariants.{BadCommand, BackTooFar, Memory}

-- ---- what a line writes

-- the word of an end
abbrev pub end_word : MoveEnd → Text
end_word ends.Went = codes "went"
end_word ends.There = codes "there"
end_word ends.Entered = codes "entered"
end_word ends.Back = codes "back"
end_word ends.Stopped = codes "stopped"
end_word ends.NoOrder = codes "no order"
end_word ends.NoTape = codes "no tape"
end_word ends.Limit = codes "limit"

-- `at A after K: W`, A the counter, K the count of orders obeyed and W the end of a move
abbrev pub move_line : ℕ → ℕ → MoveEnd → Text
move_line at done end = codes "at " ++ decimal at ++ codes " after " ++ decimal done ++ codes ": "
    ++ end_word end ++ 10 ∷ []

-- the session after a move forward
abbrev pub after_move : MoveTarget → Stand → Stand
after_move aim s = record s { done = s.done + move_orders aim (left s) (stands_at s) }

-- the session after a move back
abbrev pub after_move_back : ℕ → Stand → Stand
after_move_back n s = record s { done = s.done - n }

-- the line of a move that leaves a session here
abbrev pub line_at : Stand → MoveEnd → Text
line_at t end = move_line (stands_at t).counter t.done end

-- the line of a move forward
abbrev pub line_of_move : MoveTarget → Stand → Text
line_of_move aim s = line_at (after_move aim s) (move_end aim (left s) (stands_at s))

-- the functions of the orders of a move by n orders
abbrev pub traced_functions : ℕ → Stand → List ℕ
traced_functions n s = functions_after (move_orders (Orders n) (left s) (stands_at s)) (stands_at s)

-- the last printed code, if there is one
abbrev pub last_word : Option ℕ → Text
last_word (Some code) = decimal code
last_word None = codes "none"

-- the words of the locations from a to b
abbrev pub words_shown : ℕ → ℕ → Stand → Text
words_shown a b s = listing (stands_at s).store (range_with_len a (b + 1 - a))

-- what a line writes
abbrev pub writes : SessionCommand → Stand → Text
writes Nothing s = []
writes (Move aim) s = line_of_move aim s
writes (Back n) s = line_at (after_move_back n s) ends.Back
writes (Trace n) s = trace_text (traced_functions n s) ++ line_of_move (Orders n) s
writes (Show a b) s = words_shown a b s
writes Accumulator s = codes "acc " ++ decimal (stands_at s).acc ++ 10 ∷ []
writes Multiplier s = codes "mult " ++ decimal (stands_at s).multiplier ++ 10 ∷ []
writes LastPrinted s = codes "last " ++ last_word (stands_at s).last ++ 10 ∷ []

-- the session after a line
abbrev pub left_by : SessionCommand → Stand → Stand
left_by (Move aim) s = after_move aim s
left_by (Back n) s = after_move_back n s
left_by (Trace n) s = after_move (Orders n) s
left_by command s = s

-- whether a line goes back by more orders than were obeyed
abbrev pub is_too_far : SessionCommand → Stand → Bool
is_too_far (Back n) s = nat_lt s.done n
is_too_far command s = false

-- ---- whole scripts

-- a line that went back too far, and the count of orders obeyed by then
pub record TooFar : Type 0 where
  pub line : ℕ
  pub done : ℕ

-- what lines wrote, the session after them, and which line went back too far, if one did
pub record Played : Type 0 where
  pub text : Text
  pub stand : Stand
  pub refused : Option TooFar

-- the same with a text before it
abbrev pub after_text_of : Text → Played → Played
after_text_of text p = record p { text = text ++ p.text }

-- lines one after the other until one goes back too far; the first of them has the number k
abbrev pub play : ℕ → List SessionCommand → Stand → Played
play k [] s = record { text = []; stand = s; refused = None }
play k (command ∷ rest) s = if is_too_far command s
    then record { text = []; stand = s; refused = Some (record { line = k; done = s.done }) }
    else after_text_of (writes command s) (play (k + 1) rest (left_by command s))

-- the first of the commands have run, each completely, and the session is where they left it
pub record LeftBy (commands : List SessionCommand) (s t : Stand) : Type 0 where
  pub ran : List SessionCommand
  pub rest : List SessionCommand
  pub whole : commands ≡ ran ++ rest
  pub none_refused : (play 1 ran s).refused ≡ None
  pub stand : (play 1 ran s).stand ≡ t

-- a line went back too far: the commands before it have run, and the session is where they left it
pub record GoesTooFar (commands : List SessionCommand) (s t : Stand) (line done : ℕ) : Type 0 where
  pub refused : (play 1 commands s).refused ≡ Some (record { line = line; done = done })
  pub stand : (play 1 commands s).stand ≡ t

-- the answer of a script, and the session after it: the text of its commands; its first bad line, before any line
-- runs; the line that went back too far, after those before it; or no memory was found
abbrev pub ScriptEnds : Text → Stand → Result (Vec ℕ Global) ScriptFault → Stand → Type 0
ScriptEnds script s (Ok text) t =
    OfScript script (λ commands. play 1 commands s ≡ record { text = text.items; stand = t; refused = None })
ScriptEnds script s (Err (BadCommand line)) t = IsFirstBadLine script line × (t ≡ s)
ScriptEnds script s (Err (BackTooFar line done)) t = OfScript script (λ commands. GoesTooFar commands s t line done)
ScriptEnds script s (Err Memory) t = OfScript script (λ commands. LeftBy commands s t)
