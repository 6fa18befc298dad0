use Rattle.ed_syntax.proofs.Kit.{take, true, ◌≡◌, list_all, is_run_byte}
use Rattle.ed_syntax.proofs.parts.split_run.Given as goal

abbrev pub invariant-loop-place : goal.invariant-loop-place
invariant-loop-place l = list_all is_run_byte (take l.place l.line) ≡ true
