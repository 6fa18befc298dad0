-- Which commands a script says, or which line of it is bad (this project's own rule).
use Rattle.std.specs.Prelude.{ℕ, ◌≡◌, ◌⊎◌, ◌+◌, ◌≤◌, List, [], ◌∷◌, ◌++◌, length, Option, Some, None}
use Rattle.ed_words.specs.Texts.{Text}
use Rattle.ed_syntax.specs.Lines.{HasLines}
use Rattle.ed_stepper.specs.Commands.{LineSaysCommand, SaysNoCommand}
use Rattle.ed_stepper.specs.declared.commands.SessionCommand.{SessionCommand}

-- the commands of a script, in the order of its lines
abbrev pub CommandList : Type 0
CommandList = List SessionCommand

-- the lines say these commands, each line one
pub data LinesSayCommands : List Text → CommandList → Type 0 where
  no_more : LinesSayCommands [] []
  and_more : (line : Text) (lines : List Text) (c : SessionCommand) (cs : CommandList) → LineSaysCommand line c
      → LinesSayCommands lines cs → LinesSayCommands (line ∷ lines) (c ∷ cs)

-- the text is a script of at most 1,000 lines that say these commands
pub record IsScript (text : Text) (commands : CommandList) : Type 0 where
  pub lines : List Text
  pub has_lines : HasLines text lines
  pub few : length lines ≤ 1000
  pub says : LinesSayCommands lines commands

-- the line with this number is bad: it says no command, or it is line 1001
pub data IsBadLine (number : ℕ) (line : Text) : Type 0 where
  no_command : number ≤ 1000 → SaysNoCommand line → IsBadLine number line
  too_many_lines : number ≡ 1001 → IsBadLine number line

-- the first bad line of the script is this one; lines count from 1
pub record IsFirstBadLine (text : Text) (number : ℕ) : Type 0 where
  pub before : List Text
  pub line : Text
  pub after : List Text
  pub said : CommandList
  pub has_lines : HasLines text (before ++ line ∷ after)
  pub says : LinesSayCommands before said
  pub number_is : number ≡ length before + 1
  pub bad : IsBadLine number line

-- the text is a script and this holds of its commands
abbrev pub OfScript : Text → (CommandList → Type 0) → Type 0
OfScript text P = (commands : CommandList) × IsScript text commands × P commands

-- the first bad line, if there is one
abbrev pub HasBadLine : Text → Option ℕ → Type 0
HasBadLine text None = OfScript text (λ commands. Unit {0})
HasBadLine text (Some number) = IsFirstBadLine text number

-- ---- the law of scripts

-- Each line says at most one command. Each text is a script that says one list of commands, or has one first bad line,
-- and never both.
pub record EachScriptHasOneMeaning : Type 0 where
  pub one_command : (line : Text) (c d : SessionCommand) → LineSaysCommand line c → LineSaysCommand line d → c ≡ d
  pub every : (text : Text) → ((commands : CommandList) × IsScript text commands)
      ⊎ ((number : ℕ) × IsFirstBadLine text number)
  pub one_script : (text : Text) (commands others : CommandList) → IsScript text commands → IsScript text others
      → commands ≡ others
  pub never_both : (text : Text) (commands : CommandList) (number : ℕ) → IsScript text commands
      → IsFirstBadLine text number → ⊥
  pub one_bad_line : (text : Text) (number other : ℕ) → IsFirstBadLine text number → IsFirstBadLine text other
      → number ≡ other
