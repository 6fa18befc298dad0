-- A line of a script says what is read in it.
use Rattle.ed_stepper.proofs.Kit.{unwrap_or, [], ap, arith, Bool, codes, false, if◌then◌else◌, length, List, None}
use Rattle.ed_stepper.proofs.Kit.{Option, refl, Some, subst, sym, true, ℕ, ◌++◌, ◌∙◌, ◌∷◌, ◌≡◌, ◌≤◌, Decides-eqb, Text}
use Rattle.ed_stepper.proofs.Kit.{with_byte, begins_part, go, is_space, LineSaysCommand, no_part, one_part, one_space}
use Rattle.ed_stepper.proofs.Kit.{parts_between_spaces, session_command, SessionCommand, Move, Show}
use Rattle.ed_syntax.proofs.Kit.{option_map, list_all, bytes_eq, le-leb, leb-true, bytes_eq-Decides, is_digit, value}
use Rattle.ed_words.specs.Decimals.{in_range, number, number_within}
use Rattle.std.proofs.lemmas.Bool.{false_from_ne_true, or_parts}
use Rattle.std.proofs.lemmas.Option.{option_and_then_some}
use Rattle.ed_words.proofs.Choices.{if_means}
use Rattle.ed_stepper.specs.Commands.{has_space, HasCommandParts, IsNumberWithin, SaysCommand, SaysNoCommand, nothing}
use Rattle.ed_stepper.specs.Commands.{back, entry, show_acc, show_from, show_last, show_mult, show_one, to, trace}
use Rattle.ed_stepper.specs.Private.CommandReading.{of_parts, of_two, show_command, shown_command}
use Rattle.ed_stepper.specs.Private.Commands.{IsCommandInRange}
use Rattle.ed_stepper.specs.declared.commands.SessionCommand.TheVariants.{Back, Trace}
use Rattle.ed_stepper.specs.declared.moves.MoveTarget.TheVariants as aims
use Rattle.std.proofs.Common.{rules}

-- ---- values in options

some_is : {A : Type 0} {x y : A} → Some x ≡ Some y → x ≡ y
some_is {x = x} e = ap (λ o. unwrap_or o x) e

none_is : {A B : Type 0} {y : A} → None ≡ Some y → B
none_is e = absurd (cc)

-- ---- parts

-- a part in front
part_read : (b : ℕ) (bs line : Text) → has_space (b ∷ bs) ≡ false → begins_part line ≡ false
    → parts_between_spaces ((b ∷ bs) ++ line) ≡ (b ∷ bs) ∷ parts_between_spaces line
part_read b [] line solid ends = search (rules, or_parts)
part_read b (c ∷ bs) line solid ends =
    let f = or_parts (is_space b) (has_space (c ∷ bs)) solid in
    let next = (or_parts (is_space c) (has_space bs) f.1).0 in
    rw (f.0, next) (ap (with_byte b) (sym (rw next refl) ∙ part_read c bs line f.1 ends))

-- the parts that a line has are those that are read in it
pub parts_are_read : (line : Text) (parts : List Text) → HasCommandParts line parts
    → parts_between_spaces line ≡ parts
parts_are_read _ _ no_part = refl
parts_are_read _ _ (one_space line parts h) = parts_are_read line parts h
parts_are_read _ _ (one_part b bs line parts solid ends h) = search (rules, part_read, parts_are_read line parts h)

-- a byte in front of a part
longer : (b : ℕ) (line : Text) (parts : List Text) → is_space b ≡ false → begins_part line ≡ true
    → HasCommandParts line parts → HasCommandParts (b ∷ line) (with_byte b parts)
longer b _ _ e begins no_part = absurd (cc)
longer b _ _ e begins (one_space line parts h) = absurd (cc)
longer b _ _ e begins (one_part c bs line parts solid ends h) = one_part b (c ∷ bs) line parts (rw e solid) ends h

-- the parts that are read in a line are those that it has
pub read_parts_are : (line : Text) → HasCommandParts line (parts_between_spaces line)
read_parts_are [] = no_part
read_parts_are (b ∷ bs) = by_tests (is_space b) (begins_part bs) refl refl (read_parts_are bs)
  where
    by_tests : (c d : Bool) → is_space b ≡ c → begins_part bs ≡ d → HasCommandParts bs (parts_between_spaces bs)
        → HasCommandParts (b ∷ bs) (if c then parts_between_spaces bs
        else if d then with_byte b (parts_between_spaces bs) else (b ∷ []) ∷ parts_between_spaces bs)
    by_tests true d e f h = rw ((Decides-eqb b 32).0 e) (one_space bs _ h)
    by_tests false true e f h = longer b bs _ e f h
    by_tests false false e f h = one_part b [] bs _ (rw e refl) f h

-- ---- numbers

-- a number that a line has is read
number_is_read : (least most : ℕ) (n : Text) → IsNumberWithin least most n
    → number_within least most n ≡ Some (value n)
number_is_read least most n i = search (rules, le-leb)

range_is : (least most n x : ℕ) → in_range least most n ≡ Some x → (least ≤ n) × (n ≤ most) × (n ≡ x)
range_is least most n x = search (rules, leb-true, some_is, none_is)

-- what is read as a number is one
read_is_number : (least most : ℕ) (n : Text) (x : ℕ) → number_within least most n ≡ Some x
    → IsNumberWithin least most n × (value n ≡ x)
read_is_number least most n x e = search (rules, option_and_then_some, range_is)

-- ---- commands

-- a number is not another word that `show` may have after it
not_word : (a word : Text) → number_within 0 1023 word ≡ None → IsNumberWithin 0 1023 a → bytes_eq a word ≡ false
not_word a word none i = search (rules, false_from_ne_true, bytes_eq-Decides, number_is_read)

shown_is : (a : Text) → IsNumberWithin 0 1023 a
    → shown_command a ≡ show_command (number_within 0 1023 a) (number_within 0 1023 a)
shown_is a i =
    rw (not_word a (codes "acc") refl i, not_word a (codes "mult") refl i, not_word a (codes "last") refl i) refl

-- the locations from one to another
window_is : (a b : Text) → IsNumberWithin 0 1023 a → IsNumberWithin 0 1023 b → value a ≤ value b
    → show_command (number_within 0 1023 a) (number_within 0 1023 b) ≡ Some (Show (value a) (value b))
window_is a b i j le =
    rw (number_is_read 0 1023 a i, number_is_read 0 1023 b j) (rw (le-leb (value a) (value b) le) refl)

-- what parts say is read
pub command_is_read : (parts : List Text) (c : SessionCommand) → SaysCommand parts c → of_parts parts ≡ Some c
command_is_read _ _ (go n i) = ap (option_map (λ n. Move (aims.Orders n))) (number_is_read 1 100000000 n i)
command_is_read _ _ (to a i) = ap (option_map (λ n. Move (aims.Address n))) (number_is_read 0 1023 a i)
command_is_read _ _ (back n i) = ap (option_map Back) (number_is_read 0 100000000 n i)
command_is_read _ _ (trace n i) = ap (option_map Trace) (number_is_read 1 10000 n i)
command_is_read _ _ (show_one a i) = shown_is a i ∙ window_is a a i i (omega arith)
command_is_read _ _ (show_from a b i j le) = window_is a b i j le
command_is_read _ _ s = refl

-- what is read is said, whatever follows from it
said : {x c : SessionCommand} (S : SessionCommand → Type 0) → S x → Some x ≡ Some c → S c
said S s e = subst S (some_is e) s

-- the words of the commands, one after the other
after_word : {c : SessionCommand} (S : Text → Type 0) (w word : Text) (x y : Option SessionCommand)
    → (x ≡ Some c → S word) → (y ≡ Some c → S w) → (if bytes_eq w word then x else y) ≡ Some c → S w
after_word {c} S w word x y f g = if_means (λ (o : Option SessionCommand). o ≡ Some c → S w) (bytes_eq w word) x y
    (λ e h. subst S (sym ((bytes_eq-Decides w word).0 e)) (f h)) (λ _. g)

-- a command with one number
with_number : {least most : ℕ} {a : Text} {c : SessionCommand} (S : SessionCommand → Type 0) (f : ℕ → SessionCommand)
    → (IsNumberWithin least most a → S (f (value a))) → option_map f (number_within least most a) ≡ Some c → S c
with_number {least} {most} {a} {c} S f says e = search (rules, none_is, read_is_number, some_is)

-- the locations from one to another
with_window : {a b : Text} {c : SessionCommand} (S : SessionCommand → Type 0)
    → (IsNumberWithin 0 1023 a → IsNumberWithin 0 1023 b → value a ≤ value b → S (Show (value a) (value b)))
    → show_command (number_within 0 1023 a) (number_within 0 1023 b) ≡ Some c → S c
with_window {a} {b} {c} S says e = search (rules, none_is, read_is_number, leb-true, some_is)

-- after `show`
shown_said : (a : Text) (c : SessionCommand) → shown_command a ≡ Some c → SaysCommand (codes "show" ∷ a ∷ []) c
shown_said a c =
    let S : Text → Type 0 = λ x. SaysCommand (codes "show" ∷ x ∷ []) c in
    after_word S a (codes "acc") _ _ (said (SaysCommand (codes "show" ∷ codes "acc" ∷ [])) show_acc)
    (after_word S a (codes "mult") _ _ (said (SaysCommand (codes "show" ∷ codes "mult" ∷ [])) show_mult)
    (after_word S a (codes "last") _ _ (said (SaysCommand (codes "show" ∷ codes "last" ∷ [])) show_last)
    (with_window {b = a} (SaysCommand (codes "show" ∷ a ∷ [])) (λ i j le. show_one a i))))

-- in two parts
two_said : (w a : Text) (c : SessionCommand) → of_two w a ≡ Some c → SaysCommand (w ∷ a ∷ []) c
two_said w a c =
    let S : Text → Type 0 = λ x. SaysCommand (x ∷ a ∷ []) c in
    after_word S w (codes "go") _ _ (with_number (SaysCommand (codes "go" ∷ a ∷ [])) _ (go a))
    (after_word S w (codes "to") _ _ (with_number (SaysCommand (codes "to" ∷ a ∷ [])) _ (to a))
    (after_word S w (codes "back") _ _ (with_number (SaysCommand (codes "back" ∷ a ∷ [])) _ (back a))
    (after_word S w (codes "trace") _ _ (with_number (SaysCommand (codes "trace" ∷ a ∷ [])) _ (trace a))
    (after_word S w (codes "show") _ _ (shown_said a c) none_is))))

-- what is read in parts is said
pub read_is_said : (parts : List Text) (c : SessionCommand) → of_parts parts ≡ Some c → SaysCommand parts c
read_is_said [] c e = said (SaysCommand []) nothing e
read_is_said (w ∷ []) c e = after_word (λ x. SaysCommand (x ∷ []) c) w (codes "entry") _ _
    (said (SaysCommand (codes "entry" ∷ [])) entry) none_is e
read_is_said (w ∷ a ∷ []) c e = two_said w a c e
read_is_said (w ∷ a ∷ b ∷ []) c e = after_word (λ x. SaysCommand (x ∷ a ∷ b ∷ []) c) w (codes "show") _ _
    (with_window (SaysCommand (codes "show" ∷ a ∷ b ∷ [])) (show_from a b)) none_is e
read_is_said (w ∷ a ∷ b ∷ d ∷ parts) c e = none_is e

-- ---- lines

-- what a line says is read
pub line_is_read : (line : Text) (c : SessionCommand) → LineSaysCommand line c → session_command line ≡ Some c
line_is_read line c s =
    ap of_parts (parts_are_read line s.parts s.has_parts) ∙ command_is_read s.parts c s.says

-- what is read in a line is said
pub read_line_says : (line : Text) (c : SessionCommand) → session_command line ≡ Some c → LineSaysCommand line c
read_line_says line c e = search (rules, read_parts_are, read_is_said)

-- a line in which nothing is read says nothing
pub unread_says_none : (line : Text) → session_command line ≡ None → SaysNoCommand line
unread_says_none line none = λ c s. let read = line_is_read line c s in absurd (cc)

-- a line says one command
pub one_command : (line : Text) (c d : SessionCommand) → LineSaysCommand line c → LineSaysCommand line d → c ≡ d
one_command line c d s t =
    let first = line_is_read line c s in let second = line_is_read line d t in cc

-- ---- ranges

said_in_range : (parts : List Text) (c : SessionCommand) → SaysCommand parts c → IsCommandInRange c
said_in_range _ _ (trace n i) = i.at_most
said_in_range _ _ (show_one a i) = (omega arith, i.at_most)
said_in_range _ _ (show_from a b i j le) = (le, j.at_most)
said_in_range _ _ s = tt

-- the numbers of a command that is read are in their ranges
pub read_in_range : (line : Text) (c : SessionCommand) → session_command line ≡ Some c → IsCommandInRange c
read_in_range line c e =
    said_in_range (parts_between_spaces line) c (read_is_said (parts_between_spaces line) c e)
