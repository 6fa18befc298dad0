-- A program, one more line at a time.
use Rattle.ed_syntax.proofs.Kit.{[], append_assoc, Bool, Err, false, List, Ok, Result, ℕ, ◌++◌, ◌+◌}
use Rattle.ed_syntax.proofs.Kit.{◌==◌, ◌∷◌, ◌≡◌, Text, IsFaultOf, with_lines_before, Fault, line_of, lines_from, rules}
use Rattle.ed_syntax.proofs.Kit.{with_first, SourceFault, Form, Line}
use Rattle.ed_syntax.specs.Private.Answers.{LineIs}

abbrev pub numbered : ℕ → Form → Line
numbered k f = record { number = k; label = f.label; statement = f.statement }

front_more : (xs : List Line) (l : Line) (r : Result (List Line) Fault)
    → with_lines_before xs (with_first l r) ≡ with_lines_before (xs ++ l ∷ []) r
front_more xs l r = search (rules, append_assoc)

-- the lines that are found, with one more of those that are left
pub program_step : {line : Text} {behind : List Text} {f : Form} (two : Bool) (k : ℕ) (lines : List Text)
    (xs : List Line)
    → lines ≡ line ∷ behind → (k == 2001) ≡ false → line_of two k line ≡ Ok f
    → with_lines_before xs (lines_from two k lines)
    ≡ with_lines_before (xs ++ numbered k f ∷ []) (lines_from two (k + 1) behind)
program_step {behind = behind} {f = f} two k lines xs taken more says = rw (taken, more, says) (front_more xs _ _)

-- the fault of the first of the lines that are left is that of all of them
pub fault_step : {line : Text} {behind : List Text} (two : Bool) (k : ℕ) (lines : List Text) (xs : List Line)
    (e : SourceFault)
    → lines ≡ line ∷ behind → (k == 2001) ≡ false → LineIs k (line_of two k line) (Err e)
    → IsFaultOf (with_lines_before xs (lines_from two k lines)) e
fault_step two k lines xs e taken more h = search rules
