use Rattle.ed_page.proofs.ItemRows.{IsTabled}
use Rattle.ed_page.proofs.items.push_items.Given as goal

abbrev pub invariant-loop-row : goal.invariant-loop-row
invariant-loop-row l = IsTabled l.row l.notation l.part l.table.items l.rows
