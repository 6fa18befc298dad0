-- The ranges of the numbers of a command (this project's own rule).
use Rattle.ed_run.specs.SettingRanges.{AreSettingsInRange, IsFromTo}
use Rattle.ed_library.specs.CallRanges.{IsCallInRange}
use Rattle.ed_command.specs.declared.command.Action.{Action}
use Rattle.ed_command.specs.declared.command.Action.TheVariants as doing
use Rattle.ed_command.specs.declared.command.Command.{Command}

-- the numbers of an action; only `call` and `demo` have one
abbrev pub IsActionInRange : Action → Type 0
IsActionInRange (doing.Call call) = IsCallInRange call
IsActionInRange (doing.Demo n) = IsFromTo 1 112 n
IsActionInRange _ = Unit {0}

-- the numbers of a command
pub record IsInRange (command : Command) : Type 0 where
  pub action : IsActionInRange command.action
  pub settings : AreSettingsInRange command.settings
