use Rattle.ed_initial1.proofs.Kit.{Full, arith, get_or, refl, sym, ◌∙◌, ◌≡◌, first_orders, rules}
use Rattle.std.proofs.lemmas.Bool.{false≢true}
use Rattle.ed_initial.proofs.Compared.{not_eqb-same, is_same, is_other}
use borrow.Author.Count.{below_more}
use Rattle.ed_initial1.proofs.starting.is_started1.Goals as goal

pub returns-then-ne-2 : goal.returns-then-ne-2
returns-then-ne-2 c = (
  λ no. absurd (false≢true no),
  λ started.
      absurd (is_other _ first_orders _ c.loop-place-test.true c.orders1.ensures refl c.order-item.is c.word.ensures.is
      (not_eqb-same _ c.ne-in-loop-place.ensures c.order-item.is) c.if-ne-2.true
      (started.orders _ c.loop-place-test.true)),
)

pub loop-place-preserved : goal.loop-place-preserved
loop-place-preserved c =
    below_more (λ j. get_or c.args.machine.now.store.words j 0 ≡ get_or first_orders j 0) c.loop-place.place
    c.loop-place.invariant
    (is_same _ first_orders _ c.loop-place-test.true c.orders1.ensures refl c.order-item.is c.word.ensures.is
    (not_eqb-same _ c.ne-in-loop-place.ensures c.order-item.is) c.if-ne-2.false)

pub returns : goal.returns
returns c =
    let full : c.args.machine.now.size ≡ Full = search rules in (
      λ _. record {
        size = full;
        counter = sym c.counter.ensures.is ∙ c.if-counter-ne0.false;
        orders = λ i less. c.loop-place.invariant i (omega arith);
      },
      λ _. refl,
    )
