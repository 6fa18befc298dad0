use Rattle.ed_notation.proofs.Kit.{drop, ◌++◌, ◌≡◌, spelled_rows, canonicals}
use Rattle.ed_notation.proofs.spelling.rows_of_items.Given as goal

abbrev pub invariant-loop-item : goal.invariant-loop-item
invariant-loop-item l = l.rows.items ++ spelled_rows (canonicals (drop l.item-index l.items))
    ≡ spelled_rows (canonicals l.items)
