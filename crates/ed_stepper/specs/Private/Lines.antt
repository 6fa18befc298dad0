-- What one line of a script does.
use Rattle.std.specs.Prelude.{◌≡◌, ◌⊎◌, true, false, Result, Ok, Err, Vec, ℕ}
use Rattle.std.specs.declared.alloc.Global.{Global}
use Rattle.ed_stepper.specs.Sessions.{Stand}
use Rattle.ed_stepper.specs.Scripts.{left_by, is_too_far, writes}
use Rattle.ed_stepper.specs.declared.commands.SessionCommand.{SessionCommand}
use Rattle.ed_stepper.specs.declared.moves.BackFault.{BackFault}
use Rattle.ed_stepper.specs.declared.moves.BackFault.TheVariants.{TooFar, Memory}
use Rattle.ed_stepper.specs.declared.script.ScriptFault.{ScriptFault}
use Rattle.ed_stepper.specs.declared.script.ScriptFault.TheVariants as script

-- the fault of a script whose line k has this one
abbrev pub fault_on : ℕ → BackFault → ScriptFault
fault_on k (TooFar done) = script.BackTooFar k done
fault_on k Memory = script.Memory

-- the line has run and this is what it writes; it goes back too far and has changed nothing; or memory ran out before
-- or after it ran
abbrev pub LineEnds : SessionCommand → Stand → Result (Vec ℕ Global) BackFault → Stand → Type 0
LineEnds command s (Ok text) t = (is_too_far command s ≡ false) × (text.items ≡ writes command s)
    × (t ≡ left_by command s)
LineEnds command s (Err (TooFar done)) t = (is_too_far command s ≡ true) × (done ≡ s.done) × (t ≡ s)
LineEnds command s (Err Memory) t = (t ≡ s) ⊎ ((is_too_far command s ≡ false) × (t ≡ left_by command s))
