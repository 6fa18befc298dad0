use Rattle.ed_page.proofs.Kit.{drop, ◌++◌, ◌≡◌}
use Rattle.ed_page.proofs.snapshot.codes_of.Given as goal

abbrev pub invariant-loop-number : goal.invariant-loop-number
invariant-loop-number l = l.codes.items ++ drop l.number-index l.numbers ≡ l.numbers
