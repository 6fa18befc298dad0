use Rattle.ed_syntax.proofs.Kit.{take, true, ◌≡◌, list_all, is_line_byte}
use Rattle.ed_syntax.proofs.source.are_line_bytes.Given as goal

abbrev pub invariant-loop-byte : goal.invariant-loop-byte
invariant-loop-byte l = list_all is_line_byte (take l.byte-index l.line) ≡ true
