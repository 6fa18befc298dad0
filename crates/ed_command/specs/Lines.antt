-- The lines of the program: which words are a command, and which command they are (this project's own rule).
use Rattle.std.specs.Prelude.{ℕ, ◌*◌, List, [], ◌∷◌, Option, Some, None, codes, nat_lt}
use Rattle.std.specs.Prelude.{option_map, option_and_then, if◌then◌else◌}
use Rattle.std.specs.Str.{bytes_eq}
use Rattle.ed_words.specs.Decimals.{number, number_within}
use Rattle.ed_library.specs.declared.call.Call.{Call}
use Rattle.ed_library.specs.declared.call.Call.TheVariants.{Print, Read, NewLine, Divide, Root, Check}
use Rattle.ed_words.specs.Texts.{Text}
use Rattle.ed_run.specs.declared.settings.Settings.{Settings}
use Rattle.ed_command.specs.Words.{WordParts, word_parts, values_of}
use Rattle.ed_command.specs.Settings.{Options, has_only, options_by, settings_of}
use Rattle.ed_command.specs.declared.command.Action.{Action}
use Rattle.ed_command.specs.declared.command.Action.TheVariants as doing
use Rattle.ed_command.specs.declared.command.Command.{Command}

-- ---- arguments

-- no argument
abbrev pub alone : {A : Type 0} → A → List Text → Option A
alone action [] = Some action
alone action _ = None

-- one argument, a number from `least` to `most`
abbrev pub one_number : ℕ → ℕ → List Text → Option ℕ
one_number least most (text ∷ []) = number_within least most text
one_number least most _ = None

-- a division whose quotient is below 65,536
abbrev pub division : Option ℕ → Option ℕ → Option Call
division (Some n) (Some by) = if nat_lt n (65536 * by) then Some (Divide n by) else None
division _ _ = None

-- two arguments, the dividend and the divisor, which is 1 to 32,767
abbrev pub with_division : List Text → Option Call
with_division (n ∷ by ∷ []) = division (number n) (number_within 1 32767 by)
with_division _ = None

-- the name of a call and its numbers
abbrev pub call_of : List Text → Option Call
call_of [] = None
call_of (name ∷ numbers) =
    if bytes_eq name (codes "print") then option_map Print (one_number 0 65535 numbers)
    else if bytes_eq name (codes "read") then option_map Read (one_number 0 65535 numbers)
    else if bytes_eq name (codes "newline") then alone NewLine numbers
    else if bytes_eq name (codes "divide") then with_division numbers
    else if bytes_eq name (codes "root") then option_map Root (one_number 0 65535 numbers)
    else if bytes_eq name (codes "check") then option_map Check (one_number 0 65535 numbers)
    else None

-- ---- lines

-- a line: its first word, its action by its arguments, and the options that it may have
pub record TableLine : Type 0 where
  pub word : Text
  pub action : List Text → Option Action
  pub options : List Text

-- a line of the table
abbrev pub table_line : Text → (List Text → Option Action) → List Text → TableLine
table_line word action options = record { word = word; action = action; options = options }

-- the name of the option for the limit of orders
abbrev pub limit : Text
limit = codes "limit"

-- the name of the option for the number of resumes
abbrev pub resume : Text
resume = codes "resume"

-- the name of the option for the words to print after the run
abbrev pub post_mortem : Text
post_mortem = codes "post-mortem"

-- the name of the option for the size of the store
abbrev pub store : Text
store = codes "store"

-- the lines of the program
abbrev pub lines : List TableLine
lines =
    table_line (codes "tape") (alone doing.Tape) (limit ∷ resume ∷ post_mortem ∷ store ∷ [])
    ∷ table_line (codes "check-tape") (alone doing.CheckTape) (store ∷ [])
    ∷ table_line (codes "run") (alone doing.Run) (limit ∷ resume ∷ post_mortem ∷ store ∷ [])
    ∷ table_line (codes "punch") (alone doing.Punch) (store ∷ [])
    ∷ table_line (codes "listing") (alone doing.Listing) (store ∷ [])
    ∷ table_line (codes "step") (alone doing.Step) (limit ∷ [])
    ∷ table_line (codes "trace") (alone doing.Trace) (limit ∷ resume ∷ store ∷ [])
    ∷ table_line (codes "call") (λ arguments. option_map doing.Call (call_of arguments)) (limit ∷ [])
    ∷ table_line (codes "library") (alone doing.Library) []
    ∷ table_line (codes "demo") (λ arguments. option_map doing.Demo (one_number 1 112 arguments)) (limit ∷ [])
    ∷ table_line (codes "parts") (alone doing.Parts) (limit ∷ [])
    ∷ table_line (codes "tape1") (alone doing.Tape1) (limit ∷ resume ∷ [])
    ∷ table_line (codes "check-tape1") (alone doing.CheckTape1) []
    ∷ []

-- the line that begins with a word
abbrev pub line_named : List TableLine → Text → Option TableLine
line_named [] word = None
line_named (l ∷ ls) word = if bytes_eq word l.word then Some l else line_named ls word

-- the command of an action with what the options set
abbrev pub command : Option Action → Option Settings → Option Command
command (Some action) (Some settings) = Some (record { action = action; settings = settings })
command _ _ = None

-- the command of an action, if only these options are given
abbrev pub with_only : List Text → Options → Option Action → Option Command
with_only names o action = if has_only names o then command action (settings_of o) else None

-- the command of the line that begins with a word, with these arguments
abbrev pub command_named : Text → List Text → Options → Option Command
command_named word arguments o =
    option_and_then (λ l. with_only l.options o (l.action arguments)) (line_named lines word)

-- the command of the first word that belongs to no option, with the others as its arguments
abbrev pub command_of : List Text → Options → Option Command
command_of [] o = None
command_of (word ∷ arguments) o = command_named word arguments o

-- the command of the parts
abbrev pub command_in : WordParts → Option Command
command_in p = command_of p.words (options_by (λ name. values_of name p.settings))

-- the command that the words are, if they are one
unfoldable pub command_line : List Text → Option Command
command_line words = option_and_then command_in (word_parts words)
