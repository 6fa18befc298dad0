use Rattle.ed_syntax.proofs.Kit.{take, true, ◌≡◌, list_all, is_run_byte}
use Rattle.ed_syntax.proofs.terms.is_place_name.Given as goal

abbrev pub invariant-loop-byte : goal.invariant-loop-byte
invariant-loop-byte l = list_all is_run_byte (take l.byte-index l.rest) ≡ true
