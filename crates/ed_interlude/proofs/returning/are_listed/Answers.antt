use Rattle.ed_interlude.proofs.Kit.{arith, get_or, refl, ◌≡◌, ◌≤◌, initial_orders}
use Rattle.std.proofs.lemmas.Bool.{false≢true}
use Rattle.ed_initial.proofs.Compared.{is_same, is_other}
use borrow.Author.Count.{below_more}
use Rattle.ed_interlude.proofs.returning.are_listed.Goals as goal

pub returns-then-ne : goal.returns-then-ne
returns-then-ne c = (
  λ no. absurd (false≢true no),
  λ listed.
      absurd (is_other _ initial_orders _ (omega arith) c.orders-orders.ensures c.from.ensures
      c.index-listed-from.is c.word.ensures.is c.ne.ensures c.if-ne.true
      (listed _ c.loop-place.auto.place c.loop-place-test.true)),
)

pub loop-place-preserved : goal.loop-place-preserved
loop-place-preserved c =
    let words = c.args.machine.now.store.words in
    let here : get_or words c.loop-place.place 0 ≡ get_or initial_orders c.loop-place.place 0 =
    is_same _ initial_orders _ (omega arith) c.orders-orders.ensures c.from.ensures
    c.index-listed-from.is c.word.ensures.is c.ne.ensures c.if-ne.false in
    λ i from less. below_more (λ j. c.args.first ≤ j → get_or words j 0 ≡ get_or initial_orders j 0) c.loop-place.place
    (λ j before first. c.loop-place.invariant j first before) (λ _. here) i less from

pub returns : goal.returns
returns c = (λ _. λ i from less. c.loop-place.invariant i from (omega arith), λ _. refl)
