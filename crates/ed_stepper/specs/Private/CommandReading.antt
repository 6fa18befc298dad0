-- The commands of a script's lines, read from the left.
use Rattle.std.specs.Prelude.{ℕ, ◌+◌, ◌==◌, ◌||◌, List, [], ◌∷◌, codes, map, nat_le, if◌then◌else◌}
use Rattle.std.specs.Prelude.{Option, Some, None, is_none, option_map, unwrap_or}
use Rattle.std.specs.Str.{bytes_eq}
use Rattle.ed_words.specs.Decimals.{number_within}
use Rattle.ed_words.specs.Texts.{Text}
use Rattle.ed_syntax.specs.Lines.{lines_of, with_byte}
use Rattle.ed_stepper.specs.Commands.{begins_part, is_space}
use Rattle.ed_stepper.specs.declared.moves.MoveTarget.TheVariants as aims
use Rattle.ed_stepper.specs.declared.commands.SessionCommand.{SessionCommand}
use Rattle.ed_stepper.specs.declared.commands.SessionCommand.TheVariants.{Nothing, Move, Back, Trace, Show}
use Rattle.ed_stepper.specs.declared.commands.SessionCommand.TheVariants.{Accumulator, Multiplier, LastPrinted}

-- the parts of a line: its bytes between spaces
abbrev pub parts_between_spaces : Text → List Text
parts_between_spaces [] = []
parts_between_spaces (b ∷ bs) = if is_space b then parts_between_spaces bs
    else if begins_part bs then with_byte b (parts_between_spaces bs)
    else (b ∷ []) ∷ parts_between_spaces bs

-- `entry`
abbrev pub of_one : Text → Option SessionCommand
of_one w = if bytes_eq w (codes "entry") then Some (Move aims.Entry) else None

-- the locations from one to another
abbrev pub show_command : Option ℕ → Option ℕ → Option SessionCommand
show_command (Some a) (Some b) = if nat_le a b then Some (Show a b) else None
show_command a b = None

-- `show A`, `show acc`, `show mult` and `show last`
abbrev pub shown_command : Text → Option SessionCommand
shown_command a = if bytes_eq a (codes "acc") then Some Accumulator
    else if bytes_eq a (codes "mult") then Some Multiplier
    else if bytes_eq a (codes "last") then Some LastPrinted
    else show_command (number_within 0 1023 a) (number_within 0 1023 a)

-- `go N`, `to A`, `back N`, `trace N`, and `show` with one part after it
abbrev pub of_two : Text → Text → Option SessionCommand
of_two w a = if bytes_eq w (codes "go") then option_map (λ n. Move (aims.Orders n)) (number_within 1 100000000 a)
    else if bytes_eq w (codes "to") then option_map (λ n. Move (aims.Address n)) (number_within 0 1023 a)
    else if bytes_eq w (codes "back") then option_map Back (number_within 0 100000000 a)
    else if bytes_eq w (codes "trace") then option_map Trace (number_within 1 10000 a)
    else if bytes_eq w (codes "show") then shown_command a
    else None

-- `show A B`
abbrev pub of_three : Text → Text → Text → Option SessionCommand
of_three w a b = if bytes_eq w (codes "show") then show_command (number_within 0 1023 a)
    (number_within 0 1023 b) else None

-- the command of the parts of a line
abbrev pub of_parts : List Text → Option SessionCommand
of_parts [] = Some Nothing
of_parts (w ∷ []) = of_one w
of_parts (w ∷ a ∷ []) = of_two w a
of_parts (w ∷ a ∷ b ∷ []) = of_three w a b
of_parts parts = None

-- the command of a line
abbrev pub session_command : Text → Option SessionCommand
session_command line = of_parts (parts_between_spaces line)

-- the number of the first bad line; the first of these lines has the number k
abbrev pub bad_from : ℕ → List Text → Option ℕ
bad_from k [] = None
bad_from k (line ∷ rest) = if k == 1001 || is_none (session_command line) then Some k else bad_from (k + 1) rest

-- the first bad line of a script; lines count from 1
abbrev pub bad_line : Text → Option ℕ
bad_line script = bad_from 1 (lines_of script)

-- the commands of lines
abbrev pub line_commands : List Text → List SessionCommand
line_commands lines = map (λ line. unwrap_or (session_command line) Nothing) lines

-- the commands of a script
abbrev pub commands_of : Text → List SessionCommand
commands_of script = line_commands (lines_of script)
