use Rattle.ed_report.proofs.Kit.{append-nil, false, refl, sym}
use Rattle.ed_initial1.proofs.Kit.{true, eq-eqb, ne_eqb}
use Rattle.ed_report.proofs.Letters.{all_lettered, next_lettered}
use Rattle.ed_report.proofs.trace.write_trace.Goals.{then-place-eq0+in_ok-push-2, else-place-eq0}
use Rattle.ed_report.proofs.trace.write_trace.Goals as goal

pub loop-place-preserved : goal.loop-place-preserved
loop-place-preserved c =
    let next = next_lettered c.loop-place.text.items c.args.functions.now c.loop-place.invariant
    c.loop-place-test.true c.index-functions-place.is c.byte_of.ensures.is in
    elim c.if-place-eq0.branch [
      | then-place-eq0+in_ok-push-2 w ↦
          next true (eq-eqb _ 0 w.if-place-eq0.true)
          (rw (w.text-is, w.in_ok-push-2.ensures.items, c.in_ok-push.ensures.items) refl)
      | else-place-eq0 w ↦
          next false (ne_eqb _ 0 w.if-place-eq0.false)
          (rw (w.text-is, c.in_ok-push.ensures.items) (sym (append-nil _)))
    ]

pub returns-in_ok-push-3 : goal.returns-in_ok-push-3
returns-in_ok-push-3 c =
    all_lettered c.loop-place.text.items c.args.functions.now c.loop-place.place false c.loop-place.invariant
    c.loop-place-test.false
    (ne_eqb _ 0 c.if-functions-ne0.true) c.in_ok-push-3.ensures.items

pub returns-else-functions-ne0 : goal.returns-else-functions-ne0
returns-else-functions-ne0 c =
    all_lettered c.loop-place.text.items c.args.functions.now c.loop-place.place true c.loop-place.invariant
    c.loop-place-test.false
    (eq-eqb _ 0 c.if-functions-ne0.false) (sym (append-nil _))
