use Rattle.ed_interlude.proofs.Kit.{arith, refl, ◌+◌, ◌∙◌, next_state}
use Rattle.std.proofs.lemmas.Bool.{iff_false}
use Rattle.ed_interlude.proofs.Programs.{at_limit, Finishes-blocks, GoesOn-going, goes_on, running_first, stops_there}
use Rattle.ed_interlude.proofs.program.run_program.Goals as goal

pub loop-done-init : goal.loop-done-init
loop-done-init c = record { running = running_first _ _; orders = omega arith }

pub returns-in-Stopped-clause-meets : goal.returns-in-Stopped-clause-meets
returns-in-Stopped-clause-meets c =
    let r = c.loop-done.invariant.running in (
      c.loop-done.done + 1,
      stops_there r c.loop-done-test.true (iff_false c.is_returned.ensures c.if-is_returned.false)
          c.step.ensures.turn
          c.in-Stopped.is,
      next_state _ _ r.state c.step.ensures.state,
    )

pub loop-done-preserved : goal.loop-done-preserved
loop-done-preserved c =
    let i = c.loop-done.invariant in
    record {
      running = goes_on i.running c.loop-done-test.true
          (iff_false c.is_returned.ensures c.if-is_returned.false)
          c.step.ensures.turn c.step.ensures.state (GoesOn-going _ c.in-Went.is);
      orders = omega (arith, i.orders, c.step.ensures.count);
    }

pub returns-in-NoOrder-clause-meets : goal.returns-in-NoOrder-clause-meets
returns-in-NoOrder-clause-meets c =
    let r = c.loop-done.invariant.running in
    let away = iff_false c.is_returned.ensures c.if-is_returned.false in (
      c.loop-done.done,
      Finishes-blocks r c.loop-done-test.true away c.step.ensures.turn (rw c.in-NoOrder.is refl),
      c.step.ensures.blocked (rw c.in-NoOrder.is refl) ∙ r.state,
    )

pub returns-in-NoTape-clause-meets : goal.returns-in-NoTape-clause-meets
returns-in-NoTape-clause-meets c =
    let r = c.loop-done.invariant.running in
    let away = iff_false c.is_returned.ensures c.if-is_returned.false in (
      c.loop-done.done,
      Finishes-blocks r c.loop-done-test.true away c.step.ensures.turn (rw c.in-NoTape.is refl),
      c.step.ensures.blocked (rw c.in-NoTape.is refl) ∙ r.state,
    )

pub returns-clause-meets : goal.returns-clause-meets
returns-clause-meets c =
    let r = c.loop-done.invariant.running in
    let away = iff_false c.is_returned-2.ensures c.if-is_returned-2.false in (
      c.loop-done.done,
      at_limit (omega (arith, c.loop-done-test.false, c.loop-done.auto.done-end)) r away,
      r.state,
    )

pub returns-in-Stopped-clause-orders : goal.returns-in-Stopped-clause-orders
returns-in-Stopped-clause-orders c =
    omega (arith, c.loop-done.invariant.orders, c.step.ensures.count, c.loop-done-test.true)

pub returns-in-NoOrder-clause-orders : goal.returns-in-NoOrder-clause-orders
returns-in-NoOrder-clause-orders c =
    omega (arith, c.loop-done.invariant.orders, c.step.ensures.count, c.loop-done-test.true)

pub returns-in-NoTape-clause-orders : goal.returns-in-NoTape-clause-orders
returns-in-NoTape-clause-orders c =
    omega (arith, c.loop-done.invariant.orders, c.step.ensures.count, c.loop-done-test.true)

pub returns-clause-orders : goal.returns-clause-orders
returns-clause-orders c = omega (arith, c.loop-done.invariant.orders, c.loop-done.auto.done-end)
