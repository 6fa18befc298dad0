use Rattle.std.proofs.Common.{◌≡◌, ℕ, ◌<◌, false, get_or}
use Rattle.std.specs.Prelude.{◌==◌}
use Rattle.ed_codes.specs.Spelling.{letters}
use Rattle.ed_codes.proofs.code.row_of_byte.Given as goal

abbrev pub invariant-loop-number : goal.invariant-loop-number
invariant-loop-number l = (k : ℕ) → k < l.number → (get_or letters k 0 == l.byte) ≡ false
