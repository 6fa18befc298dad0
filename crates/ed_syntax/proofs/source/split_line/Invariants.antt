use Rattle.ed_syntax.proofs.Kit.{false, take, ◌≡◌, has_end}
use Rattle.ed_syntax.proofs.source.split_line.Given as goal

abbrev pub invariant-loop-place : goal.invariant-loop-place
invariant-loop-place l = has_end (take l.place l.text) ≡ false
