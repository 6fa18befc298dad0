-- The ranges of the numbers of a call (this project's own rule).
use Rattle.std.specs.Prelude.{ℕ, ◌*◌, ◌<◌, ◌≤◌}
use Rattle.ed_library.specs.declared.call.Call.{Call}
use Rattle.ed_library.specs.declared.call.Call.TheVariants.{Print, Read, NewLine, Divide, Root, Check}

-- a division whose quotient is below 65,536, by a divisor of 1 to 32,767
pub record IsDivisible (n by : ℕ) : Type 0 where
  pub positive : 1 ≤ by
  pub divisor : by ≤ 32767
  pub less : n < 65536 * by

-- the numbers of a call are below 65,536, or those of such a division
abbrev pub IsCallInRange : Call → Type 0
IsCallInRange (Print n) = n < 65536
IsCallInRange (Read n) = n < 65536
IsCallInRange NewLine = Unit {0}
IsCallInRange (Divide n by) = IsDivisible n by
IsCallInRange (Root n) = n < 65536
IsCallInRange (Check n) = n < 65536
