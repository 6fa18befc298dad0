use Rattle.std.proofs.Common.{rules, ◌<◌, length}
use Rattle.ed_library.proofs.Rows.{is_code, row_end, row_function}
use Rattle.ed_library.proofs.library.Routine.item.Goals as goal

-- by lemmas over any table: the search would read all the rows of this one
pub unwrap-requires : goal.unwrap-requires
unwrap-requires c =
    let below : c.from.result < length c.table.result.items.now = search rules in
    is_code c.new.result c.new.ensures.none.0
    (row_function c.table.result.items.now c.from.result _ c.table.ensures.rows below)

pub unwrap-requires-2 : goal.unwrap-requires-2
unwrap-requires-2 c =
    let below : c.from.result < length c.table.result.items.now = search rules in
    is_code c.new-2.result c.new-2.ensures.none.0
    (row_end c.table.result.items.now c.from.result _ c.table.ensures.rows below)
