use Rattle.ed_syntax.proofs.Kit.{length, ◌≡◌, ◌≤◌, parts_of}
use Rattle.ed_syntax.proofs.parts.skip_blanks.Given as goal

abbrev pub invariant-loop-rest : goal.invariant-loop-rest
invariant-loop-rest l = record {
  same : parts_of l.line ≡ parts_of l.rest;
  shorter : length l.rest ≤ length l.line;
}

abbrev pub decreases-loop-rest : goal.decreases-loop-rest
decreases-loop-rest l = length l.rest
