use Rattle.ed_link.proofs.Kit.{Spells, drop, true, ◌++◌, ◌≡◌, line_from}
use Rattle.ed_link.proofs.linked.push_after.Given as goal

-- the text so far and then that of the rows that are left; the line spells the rows if the rest of it does
abbrev pub invariant-loop-row : goal.invariant-loop-row
invariant-loop-row l =
    (l.text.items ++ line_from true (drop l.row-index l.rows) ≡ l.fn.text.items ++ line_from true l.rows)
    × (Spells (line_from true (drop l.row-index l.rows)) (drop l.row-index l.rows)
    → Spells (line_from true l.rows) l.rows)
