use Rattle.ed_syntax.proofs.Kit.{false, take, ◌≡◌, has_quote}
use Rattle.ed_syntax.proofs.parts.split_quote.Given as goal

abbrev pub invariant-loop-place : goal.invariant-loop-place
invariant-loop-place l = has_quote (take l.place l.text) ≡ false
