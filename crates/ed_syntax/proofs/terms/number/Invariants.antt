use Rattle.ed_syntax.proofs.Kit.{take, ◌≡◌, ◌≤◌, value}
use Rattle.ed_syntax.proofs.terms.number.Given as goal

abbrev pub invariant-loop-digit : goal.invariant-loop-digit
invariant-loop-digit l = record {
  same : l.value ≡ value (take l.digit-index l.run);
  within : l.value ≤ l.most;
}
