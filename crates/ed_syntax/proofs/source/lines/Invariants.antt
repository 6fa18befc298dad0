use Rattle.ed_syntax.proofs.Kit.{length, ◌≡◌, ◌≤◌, lines_of, with_lines_before, lines_from, is_second}
use Rattle.ed_syntax.proofs.source.lines.Given as goal

abbrev pub invariant-loop-rest : goal.invariant-loop-rest
invariant-loop-rest l = record {
  same : lines_from (is_second l.version) 1 (lines_of l.text) ≡ with_lines_before l.found.items
      (lines_from (is_second l.version) l.number (lines_of l.rest));
  number : l.number ≤ 2001;
}

abbrev pub decreases-loop-rest : goal.decreases-loop-rest
decreases-loop-rest l = length l.rest
