use Rattle.ed_programs.proofs.Kit.{drop, ◌+◌, ◌<◌, ◌≡◌}
use Rattle.ed_routines.specs.Digits.{sum}
use Rattle.ed_programs.proofs.total.has_small_sum.Given as goal

abbrev pub invariant-loop-number : goal.invariant-loop-number
invariant-loop-number l =
    (l.total < 65536) × (l.total + sum (drop l.number-index l.numbers) ≡ sum l.numbers)
