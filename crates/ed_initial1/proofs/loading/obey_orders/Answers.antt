use Rattle.ed_initial1.proofs.Kit.{eq-eqb, ne_eqb, ap, false, refl, sym, ◌∙◌, step, at_31, Entered}
use Rattle.ed_initial.proofs.Kit.{add-one, next_state, is_quiet_turn}
use Rattle.ed_initial.proofs.Runs.{ends_now, event_now, Went-other, no_orders, is_obeyed-other, one_more}
use Rattle.ed_initial.proofs.Runs.{is_obeyed-sounds}
use Rattle.ed_initial1.specs.declared.loading.Loaded1.TheVariants.{Lost}
use Rattle.ed_initial1.proofs.loading.obey_orders.Goals as goal

pub loop-orders-init : goal.loop-orders-init
loop-orders-init c = no_orders c.args.machine.now

pub returns-then-counter-eq-ENTRY-clause-ends : goal.returns-then-counter-eq-ENTRY-clause-ends
returns-then-counter-eq-ENTRY-clause-ends c =
    let place = ap at_31 (sym c.step-turn.ensures.state)
    ∙ eq-eqb _ _ (sym c.counter.ensures.is ∙ c.if-counter-eq-ENTRY.true) in
    ends_now c.loop-orders.invariant c.loop-orders-test.true
    (event_now (λ t. at_31 (step t).state) (λ t. false) _ c.step-turn.ensures.turn
    (is_obeyed-other c.step-turn.result c.in_default.not-NoOrder c.in_default.not-NoTape) place refl refl)
    (ap Entered (add-one c.loop-orders.orders))

pub returns-then-counter-eq-ENTRY-clause-state : goal.returns-then-counter-eq-ENTRY-clause-state
returns-then-counter-eq-ENTRY-clause-state c = next_state _ _ c.loop-orders.invariant.state c.step-turn.ensures.state

pub returns-in-Printed-clause-ends : goal.returns-in-Printed-clause-ends
returns-in-Printed-clause-ends c =
    let s = is_obeyed-sounds c.step-turn.result c.in-Printed.is in
    let place = ap at_31 (sym c.step-turn.ensures.state)
    ∙ ne_eqb _ _ (λ e. c.if-counter-eq-ENTRY.false (c.counter.ensures.is ∙ e)) in
    ends_now c.loop-orders.invariant c.loop-orders-test.true
    (event_now (λ t. at_31 (step t).state) (λ t. false) _ c.step-turn.ensures.turn s.0 place refl s.1)
    (ap Lost (add-one c.loop-orders.orders))

pub returns-in-Printed-clause-state : goal.returns-in-Printed-clause-state
returns-in-Printed-clause-state c = next_state _ _ c.loop-orders.invariant.state c.step-turn.ensures.state

pub loop-orders-preserved : goal.loop-orders-preserved
loop-orders-preserved c =
    let place = ap at_31 (sym c.step-turn.ensures.state)
    ∙ ne_eqb _ _ (λ e. c.if-counter-eq-ENTRY.false (c.counter.ensures.is ∙ e)) in
    one_more c.loop-orders.invariant c.step-turn.ensures.state c.step-turn.ensures.count
    (event_now (λ t. at_31 (step t).state) (λ t. false) _ c.step-turn.ensures.turn
    (is_obeyed-other c.step-turn.result c.in_default.not-NoOrder c.in_default.not-NoTape) place refl
    (ap is_quiet_turn (Went-other c.step-turn.result c.in_default.not-NoOrder c.in_default.not-NoTape
    c.in_default-turn.not-Printed c.in_default-turn.not-Stopped)))
