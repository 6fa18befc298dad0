use Rattle.ed_notation.proofs.Kit.{List, refl, rows_of, spelled_rows, canonical, canonicals, Item}
use Rattle.ed_notation.proofs.Canonical.{IsSpelling-canonicals, rest_none}
use Rattle.ed_notation.proofs.Parts.{one_more}
use Rattle.ed_notation.proofs.Unique.{none_begins}
use Rattle.ed_notation.proofs.spelling.rows_of_items.Goals as goal

pub returns-clause-spelling : goal.returns-clause-spelling
returns-clause-spelling c = rw (rest_none _ _ _ c.loop-item-test.false c.loop-item.invariant)
    (IsSpelling-canonicals _ c.requires)

pub returns-clause-law : goal.returns-clause-law
returns-clause-law c = none_begins

pub returns-in_err-push_item-clause-law : goal.returns-in_err-push_item-clause-law
returns-in_err-push_item-clause-law c = none_begins

pub loop-item-preserved : goal.loop-item-preserved
loop-item-preserved c =
    let i = c.item-item.result in
    one_more (λ (is : List Item). spelled_rows (canonicals is)) c.args.items.now c.loop-item.item-index i
    c.loop-item.rows.items (rows_of (canonical i)) _ c.loop-item-test.true c.item-item.is refl
    c.in_ok-push_item.ensures c.loop-item.invariant

pub returns-clause-rows : goal.returns-clause-rows
returns-clause-rows c =
    rest_none _ _ _ c.loop-item-test.false c.loop-item.invariant
