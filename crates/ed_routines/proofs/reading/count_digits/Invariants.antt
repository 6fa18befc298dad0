use Rattle.ed_routines.proofs.Kit.{drop, length, ◌+◌, ◌≡◌, digit_rows}
use Rattle.ed_routines.proofs.reading.count_digits.Given as goal

abbrev pub invariant-loop-index : goal.invariant-loop-index
invariant-loop-index l = l.index + length (digit_rows (drop l.index l.rows)) ≡ length (digit_rows l.rows)
