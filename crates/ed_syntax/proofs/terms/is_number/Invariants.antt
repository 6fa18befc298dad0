use Rattle.ed_syntax.proofs.Kit.{take, true, ◌≡◌, list_all, is_digit}
use Rattle.ed_syntax.proofs.terms.is_number.Given as goal

abbrev pub invariant-loop-byte : goal.invariant-loop-byte
invariant-loop-byte l = list_all is_digit (take l.byte-index l.run) ≡ true
