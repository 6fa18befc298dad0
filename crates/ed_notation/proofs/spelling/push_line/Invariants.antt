use Rattle.ed_notation.proofs.Kit.{drop, false, nat_lt, ◌++◌, ◌≡◌, line_from}
use Rattle.ed_notation.proofs.spelling.push_line.Given as goal

abbrev pub invariant-loop-i : goal.invariant-loop-i
invariant-loop-i l = l.text.items ++ line_from (nat_lt 0 l.i) (drop l.i l.rows) ≡ l.fn.text.items
    ++ line_from false l.rows
