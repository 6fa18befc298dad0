use Rattle.ed_syntax.proofs.Kit.{map, take, ◌++◌, ◌≡◌, row_letter}
use Rattle.ed_writer.proofs.text.push_rows.Given as goal

-- the letters of the rows so far have been added
abbrev pub invariant-loop-row : goal.invariant-loop-row
invariant-loop-row l = l.text.items ≡ l.initial.text.items ++ map row_letter (take l.row-index l.rows.items)
