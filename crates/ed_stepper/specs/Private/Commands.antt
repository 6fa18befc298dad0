-- The ranges of a command's numbers.
use Rattle.std.specs.Prelude.{◌≤◌}
use Rattle.ed_stepper.specs.declared.commands.SessionCommand.{SessionCommand}
use Rattle.ed_stepper.specs.declared.commands.SessionCommand.TheVariants.{Trace, Show}

-- a trace is of at most 10,000 orders; locations are those of the store
abbrev pub IsCommandInRange : SessionCommand → Type 0
IsCommandInRange (Trace n) = n ≤ 10000
IsCommandInRange (Show a b) = (a ≤ b) × (b ≤ 1023)
IsCommandInRange command = Unit {0}
