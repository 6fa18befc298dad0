-- What the lines of a script say (this project's own rule). A line has parts, with spaces between them; the parts say a
-- command. A tab is a byte of a part like any other.
use Rattle.std.specs.Prelude.{ℕ, ◌≡◌, ◌≤◌, ◌==◌, not, Bool, true, false, List, [], ◌∷◌, ◌++◌, codes, length}
use Rattle.std.specs.List.{list_all, list_any}
use Rattle.ed_words.specs.Decimals.{is_digit, value}
use Rattle.ed_words.specs.Texts.{Text}
use Rattle.ed_stepper.specs.declared.moves.MoveTarget.TheVariants as aims
use Rattle.ed_stepper.specs.declared.commands.SessionCommand.{SessionCommand}
use Rattle.ed_stepper.specs.declared.commands.SessionCommand.TheVariants.{Nothing, Move, Back, Trace, Show}
use Rattle.ed_stepper.specs.declared.commands.SessionCommand.TheVariants.{Accumulator, Multiplier, LastPrinted}

-- ---- a line and its parts

-- a space (32), the only byte that may stand between parts
abbrev pub is_space : ℕ → Bool
is_space b = b == 32

-- whether a part begins here
abbrev pub begins_part : Text → Bool
begins_part [] = false
begins_part (b ∷ bs) = not (is_space b)

-- whether a space is among the bytes
abbrev pub has_space : Text → Bool
has_space bytes = list_any is_space bytes

-- The line has these parts. A part is one or more bytes without a space, and ends at a space or with the line.
pub data HasCommandParts : Text → List Text → Type 0 where
  no_part : HasCommandParts [] []
  one_space : (line : Text) (parts : List Text) → HasCommandParts line parts → HasCommandParts (32 ∷ line) parts
  one_part : (b : ℕ) (bs line : Text) (parts : List Text) → has_space (b ∷ bs) ≡ false → begins_part line ≡ false
      → HasCommandParts line parts → HasCommandParts ((b ∷ bs) ++ line) ((b ∷ bs) ∷ parts)

-- ---- what the parts say

-- a number of 1 to 9 digits, from `least` to `most`
pub record IsNumberWithin (least most : ℕ) (n : Text) : Type 0 where
  pub some : 1 ≤ length n
  pub few : length n ≤ 9
  pub digits : list_all is_digit n ≡ true
  pub at_least : least ≤ value n
  pub at_most : value n ≤ most

-- the parts say this; a line without parts does nothing
pub data SaysCommand : List Text → SessionCommand → Type 0 where
  nothing : SaysCommand [] Nothing
  go : (n : Text) → IsNumberWithin 1 100000000 n
      → SaysCommand (codes "go" ∷ n ∷ []) (Move (aims.Orders (value n)))
  to : (a : Text) → IsNumberWithin 0 1023 a → SaysCommand (codes "to" ∷ a ∷ []) (Move (aims.Address (value a)))
  entry : SaysCommand (codes "entry" ∷ []) (Move aims.Entry)
  back : (n : Text) → IsNumberWithin 0 100000000 n → SaysCommand (codes "back" ∷ n ∷ []) (Back (value n))
  trace : (n : Text) → IsNumberWithin 1 10000 n → SaysCommand (codes "trace" ∷ n ∷ []) (Trace (value n))
  show_one : (a : Text) → IsNumberWithin 0 1023 a
      → SaysCommand (codes "show" ∷ a ∷ []) (Show (value a) (value a))
  show_from : (a b : Text) → IsNumberWithin 0 1023 a → IsNumberWithin 0 1023 b → value a ≤ value b
      → SaysCommand (codes "show" ∷ a ∷ b ∷ []) (Show (value a) (value b))
  show_acc : SaysCommand (codes "show" ∷ codes "acc" ∷ []) Accumulator
  show_mult : SaysCommand (codes "show" ∷ codes "mult" ∷ []) Multiplier
  show_last : SaysCommand (codes "show" ∷ codes "last" ∷ []) LastPrinted

-- the line says this command
pub record LineSaysCommand (line : Text) (command : SessionCommand) : Type 0 where
  pub parts : List Text
  pub has_parts : HasCommandParts line parts
  pub says : SaysCommand parts command

-- the line says no command
abbrev pub SaysNoCommand : Text → Type 0
SaysNoCommand line = (command : SessionCommand) → LineSaysCommand line command → ⊥
