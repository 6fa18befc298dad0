use Rattle.ed_initial.proofs.Kit.{rules, get_or, refl, ◌≡◌, initial_orders}
use Rattle.ed_initial.proofs.Compared.{not_eqb-same, is_same, is_other}
use borrow.Author.Count.{below_more}
use Rattle.ed_initial.proofs.starting.is_started.Goals as goal

pub returns-then-ne : goal.returns-then-ne
returns-then-ne c = search (rules, is_other)

pub loop-place-preserved : goal.loop-place-preserved
loop-place-preserved c =
    below_more (λ j. get_or c.args.machine.now.store.words j 0 ≡ get_or initial_orders j 0) c.loop-place.place
    c.loop-place.invariant
    (is_same _ initial_orders _ c.loop-place-test.true c.orders.ensures refl c.order-item.is c.word.ensures.is
    (not_eqb-same _ c.ne.ensures c.order-item.is) c.if-ne.false)

pub returns : goal.returns
returns c = search rules
