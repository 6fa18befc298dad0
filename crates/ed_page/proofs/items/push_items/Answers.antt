use Rattle.ed_page.proofs.Kit.{sym, ◌∙◌}
use Rattle.ed_page.proofs.ItemRows.{tabled_end, tabled_first, tabled_function, tabled_last, tabled_longer}
use Rattle.ed_page.proofs.items.push_items.Goals.{in-None, in-Some+else-is_last_row}
use Rattle.ed_page.proofs.items.push_items.Goals.{in-Some+then-is_last_row+in_ok-push_line-in-Some}
use Rattle.ed_page.proofs.items.push_items.Goals as goal

pub loop-row-init : goal.loop-row-init
loop-row-init c = tabled_first c.args.rows.now c.requires.empty c.requires.first

pub loop-row-preserved : goal.loop-row-preserved
loop-row-preserved c = elim c.match-part.branch [
  | in-None w ↦ rw (w.notation-is, w.part-is, w.table-is, w.at.ensures)
      (tabled_function (rw w.in-None.is at c.loop-row.invariant) c.loop-row-test.true c.index-rows-row.is)
  | in-Some+then-is_last_row+in_ok-push_line-in-Some w ↦ rw (w.notation-is, w.part-is, w.table-is)
      (tabled_last (rw w.in-Some.is at c.loop-row.invariant) c.loop-row-test.true c.index-rows-row.is
      (sym w.is_last_row.ensures ∙ w.if-is_last_row.true) w.placing-placing.result w.placing-placing.ensures
      w.in_ok-push_line-in-Some.ensures w.take.ensures.is
      w.take.ensures.bound)
  | in-Some+else-is_last_row w ↦ rw (w.notation-is, w.part-is, w.table-is)
      (tabled_longer (rw w.in-Some.is at c.loop-row.invariant) c.loop-row-test.true c.index-rows-row.is
      (sym w.is_last_row.ensures ∙ w.if-is_last_row.false) w.with_row.ensures.is w.with_row.ensures.fits)
]

pub returns : goal.returns
returns c = tabled_end c.loop-row.invariant c.loop-row-test.false
