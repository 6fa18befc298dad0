-- A script says what is read in it, or has the first bad line that is found.
use Rattle.ed_stepper.proofs.Kit.{is_none, append-nil, unwrap_or, [], ap, arith, Bool, false, if◌then◌else◌, inl, inr}
use Rattle.ed_stepper.proofs.Kit.{length, List, None, Option, refl, Some, subst, sym, true, ℕ, ◌++◌, ◌+◌, ◌==◌, ◌∙◌}
use Rattle.ed_stepper.proofs.Kit.{◌∷◌, ◌≡◌, ◌≤◌, ◌⊎◌, Decides-eqb, nat_tests, Text, HasLines, lines_of, read_lines_are}
use Rattle.ed_stepper.proofs.Kit.{bad_from, bad_line, commands_of, line_commands, session_command, HasBadLine, IsScript}
use Rattle.ed_stepper.proofs.Kit.{SessionCommand, Nothing, append_assoc, length-append, LineSaysCommand}
use Rattle.std.proofs.Common.{lit≤, ◌||◌, rules}
use Rattle.ed_syntax.proofs.SourceLaws.{lines_are_read}
use Rattle.ed_stepper.specs.ScriptLines.{EachScriptHasOneMeaning, IsBadLine, IsFirstBadLine, LinesSayCommands, and_more}
use Rattle.ed_stepper.specs.ScriptLines.{no_command, no_more, too_many_lines}
use Rattle.ed_stepper.proofs.CommandLaws.{line_is_read, one_command, read_line_says, unread_says_none}

-- ---- lines one after the other

-- one more line that says a command
says_more : {lines : List Text} {cs : List SessionCommand} {line : Text} {c : SessionCommand}
    → LinesSayCommands lines cs → LineSaysCommand line c → LinesSayCommands (lines ++ line ∷ []) (cs ++ c ∷ [])
says_more no_more s = and_more _ [] _ [] s no_more
says_more (and_more l lines d cs t says) s = and_more l _ d _ t (says_more says s)

-- what is found in the lines of a script after lines that say commands
lines_answer : {script : Text} (rest done : List Text) (cs : List SessionCommand) (k : ℕ)
    → HasLines script (done ++ rest) → LinesSayCommands done cs → k ≡ length done + 1 → k ≤ 1001
    → HasBadLine script (bad_from k rest)
lines_answer [] done cs k has says is le = search (rules, append-nil)
lines_answer {script} (line ∷ rest) done cs k has says is le =
    by_tests (k == 1001) (session_command line) refl refl (λ c f l.
    lines_answer rest (done ++ line ∷ []) (cs ++ c ∷ []) (k + 1) (rw (append_assoc done (line ∷ []) rest) has)
    (says_more says (read_line_says line c f)) (omega (arith, is, length-append done (line ∷ []))) l)
  where
    bad : IsBadLine k line → IsFirstBadLine script k
    bad b = record {
      before = done;
      line = line;
      after = rest;
      said = cs;
      has_lines = has;
      says = says;
      number_is = is;
      bad = b;
    }

    by_tests : (t : Bool) (o : Option SessionCommand) → (k == 1001) ≡ t → session_command line ≡ o
        → ((c : SessionCommand) → session_command line ≡ Some c → k + 1 ≤ 1001
        → HasBadLine script (bad_from (k + 1) rest))
        → HasBadLine script (if t || is_none o then Some k else bad_from (k + 1) rest)
    by_tests true o e f more = bad (too_many_lines ((Decides-eqb k 1001).0 e))
    by_tests false None e f more = bad (no_command (grind (arith, nat_tests)) (unread_says_none line f))
    by_tests false (Some c) e f more = more c f (grind (arith, nat_tests))

-- lines that say commands, and lines after them
said_are_read : (k : ℕ) (lines more : List Text) (cs : List SessionCommand) → LinesSayCommands lines cs
    → length lines + k ≤ 1001 → bad_from k (lines ++ more) ≡ bad_from (length lines + k) more
said_are_read k _ more _ no_more le = let e : 0 + k ≡ k = omega arith in sym (ap (λ n. bad_from n more) e)
said_are_read k _ more _ (and_more line lines c cs s says) le =
    let none : (k == 1001) ≡ false = grind (arith, nat_tests) in
    let read = line_is_read line c s in
    let e : length lines + (k + 1) ≡ length (line ∷ lines) + k = omega arith in
    rw (none, read) (said_are_read (k + 1) lines more cs says (omega (arith, e, le)) ∙ ap (λ n. bad_from n more) e)

pub commands_are : (lines : List Text) (cs : List SessionCommand) → LinesSayCommands lines cs → line_commands lines ≡ cs
commands_are _ _ no_more = refl
commands_are _ _ (and_more line lines c cs s says) =
    let read = line_is_read line c s in
    let rest = commands_are lines cs says in
    (λ i. unwrap_or (read i) Nothing ∷ line_commands lines) ∙ ap (λ (x : List SessionCommand). c ∷ x) rest

-- ---- scripts

-- what is found in a script
pub bad_line_is : (script : Text) (o : Option ℕ) → bad_line script ≡ o → HasBadLine script o
bad_line_is script o e =
    subst (HasBadLine script) e (lines_answer (lines_of script) [] [] 1 (read_lines_are script) no_more refl (lit≤ tt))

-- what a script says is read
pub script_is_read : (script : Text) (commands : List SessionCommand) → IsScript script commands
    → (bad_line script ≡ None) × (commands_of script ≡ commands)
script_is_read script commands s =
    let lines = lines_are_read script s.lines s.has_lines in
    let few = s.few in
    let le : length s.lines + 1 ≤ 1001 = omega (arith, few) in (
      ap (bad_from 1) (lines ∙ sym (append-nil s.lines)) ∙ said_are_read 1 s.lines [] commands s.says le,
      ap line_commands lines ∙ commands_are s.lines commands s.says,
    )

-- a bad line is found
found_here : (number : ℕ) (line : Text) (after : List Text) → IsBadLine number line
    → bad_from number (line ∷ after) ≡ Some number
found_here number line after (no_command le none) = by_option (session_command line) refl
  where
    low : (number == 1001) ≡ false
    low = grind (arith, nat_tests)

    by_option : (o : Option SessionCommand) → session_command line ≡ o
        → (if (number == 1001) || is_none o then Some number else bad_from (number + 1) after) ≡ Some number
    by_option None e = rw low refl
    by_option (Some c) e = absurd (none c (read_line_says line c e))
found_here number line after (too_many_lines e) = search rules

pub bad_line_is_found : (script : Text) (number : ℕ) → IsFirstBadLine script number → bad_line script ≡ Some number
bad_line_is_found script number b = search (rules, lines_are_read, said_are_read, found_here)

-- ---- the law

-- the script is one, by what is read
pub good_script : (script : Text) → bad_line script ≡ None → IsScript script (commands_of script)
good_script script e =
    let s = bad_line_is script None e in subst (IsScript script) (sym (script_is_read script s.0 s.1).1) s.1

each_script : (script : Text) → ((commands : List SessionCommand) × IsScript script commands)
    ⊎ ((number : ℕ) × IsFirstBadLine script number)
each_script script = by_line (bad_line script) refl
  where
    by_line : (o : Option ℕ) → bad_line script ≡ o → ((commands : List SessionCommand) × IsScript script commands)
        ⊎ ((number : ℕ) × IsFirstBadLine script number)
    by_line None e = inl (commands_of script, good_script script e)
    by_line (Some number) e = inr (number, bad_line_is script (Some number) e)

pub one_script : (script : Text) (commands others : List SessionCommand) → IsScript script commands
    → IsScript script others
    → commands ≡ others
one_script script commands others s t =
    sym (script_is_read script commands s).1 ∙ (script_is_read script others t).1

pub never_both : (script : Text) (commands : List SessionCommand) (number : ℕ) → IsScript script commands
    → IsFirstBadLine script number → ⊥
never_both script commands number s b =
    let good = (script_is_read script commands s).0 in let bad = bad_line_is_found script number b in cc

pub one_bad_line : (script : Text) (number other : ℕ) → IsFirstBadLine script number → IsFirstBadLine script other
    → number ≡ other
one_bad_line script number other a b =
    let first = bad_line_is_found script number a in let second = bad_line_is_found script other b in cc

pub one_meaning : EachScriptHasOneMeaning
one_meaning = record {
  one_command = one_command;
  every = each_script;
  one_script = one_script;
  never_both = never_both;
  one_bad_line = one_bad_line;
}

-- no bad line is found in a script
pub none_is_bad : (script : Text) (o : Option ℕ) → o ≡ None → HasBadLine script o → bad_line script ≡ None
none_is_bad script None e h = (script_is_read script h.0 h.1).0
none_is_bad script (Some number) e h = absurd (cc)
