use Rattle.ed_page.proofs.Kit.{drop, ◌++◌, ◌≡◌}
use Rattle.ed_page.proofs.texts.row_codes.Given as goal

abbrev pub invariant-loop-row : goal.invariant-loop-row
invariant-loop-row l = l.bytes.items ++ drop l.row-index l.rows ≡ l.rows
