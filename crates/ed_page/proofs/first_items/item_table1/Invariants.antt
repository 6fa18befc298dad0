use Rattle.ed_page.proofs.FirstItemRows.{IsTabled1}
use Rattle.ed_page.proofs.first_items.item_table1.Given as goal

abbrev pub invariant-loop-row : goal.invariant-loop-row
invariant-loop-row l = IsTabled1 l.row l.location l.part l.table.items l.read
