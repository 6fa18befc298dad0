use Rattle.ed_link.proofs.Kit.{drop, ◌≡◌, any_enter}
use Rattle.ed_link.proofs.faults.any_enter.Given as goal

abbrev pub invariant-loop-line : goal.invariant-loop-line
invariant-loop-line l = any_enter (drop l.line-index l.lines) ≡ any_enter l.lines
