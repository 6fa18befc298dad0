use Rattle.ed_stepper.proofs.Kit.{is_stop, add-one, State, is_obeyed, no_step, ap, arith, rules, sym, ◌∙◌, ◌≡◌, ◌+◌}
use Rattle.ed_stepper.proofs.Kit.{◌≤◌, blocked_end}
use Rattle.ed_initial.specs.Load.{enters}
use Rattle.ed_stepper.specs.declared.moves.MoveEnd.TheVariants.{Went}
use Rattle.ed_stepper.proofs.Walks.{after_from, at_first, at_limit, goes_on, Ends-limits, Next-obeyed, Ends-owns}
use Rattle.ed_stepper.proofs.Walks.{Ends-blocks, ends_at_once, Ends-stops, Next-taken}
use Rattle.ed_stepper.proofs.walk.walk.Goals as goal

pub returns-in-Orders-eq0 : goal.returns-in-Orders-eq0
returns-in-Orders-eq0 c = record {
  ends = ends_at_once _ _ _ Went (search rules);
  state = no_step _;
  free = λ j h. absurd (omega arith);
  most = omega arith;
  count = omega arith;
  checkpoints = λ start is few are. are;
}

pub loop-orders-init : goal.loop-orders-init
loop-orders-init c = record {
  walking = at_first _ _ _ (search rules);
  count = omega arith;
  checkpoints = λ start is few are. are;
}

pub returns-in-Stopped : goal.returns-in-Stopped
returns-in-Stopped c =
    let n = Next-obeyed c.loop-orders.invariant.walking c.loop-orders-test.true c.step.ensures.turn c.step.ensures.state
    (ap is_obeyed c.in-Stopped.is) in
    record {
      ends = Ends-stops n (ap is_stop c.in-Stopped.is);
      state = n.state;
      free = n.free;
      most = omega (arith, c.loop-orders-test.true);
      count = omega (arith, c.step.ensures.count, c.loop-orders.invariant.count);
      checkpoints = c.loop-orders.invariant.checkpoints;
    }

pub returns-in-NoOrder : goal.returns-in-NoOrder
returns-in-NoOrder c =
    let w = c.loop-orders.invariant.walking in
    let same = c.step.ensures.blocked (ap is_obeyed c.in-NoOrder.is) in
    record {
      ends = Ends-blocks w c.loop-orders-test.true (ap blocked_end (sym c.step.ensures.turn ∙ c.in-NoOrder.is));
      state = same ∙ w.state;
      free = w.free;
      most = omega (arith, c.loop-orders-test.true);
      count = omega (arith, ap (λ (x : State). x.orders) same, c.loop-orders.invariant.count);
      checkpoints = c.loop-orders.invariant.checkpoints;
    }

pub returns-in-NoTape : goal.returns-in-NoTape
returns-in-NoTape c =
    let w = c.loop-orders.invariant.walking in
    let same = c.step.ensures.blocked (ap is_obeyed c.in-NoTape.is) in
    record {
      ends = Ends-blocks w c.loop-orders-test.true (ap blocked_end (sym c.step.ensures.turn ∙ c.in-NoTape.is));
      state = same ∙ w.state;
      free = w.free;
      most = omega (arith, c.loop-orders-test.true);
      count = omega (arith, ap (λ (x : State). x.orders) same, c.loop-orders.invariant.count);
      checkpoints = c.loop-orders.invariant.checkpoints;
    }

pub returns-in-Some : goal.returns-in-Some
returns-in-Some c =
    let w = c.loop-orders.invariant.walking in
    let t = Next-taken w c.loop-orders-test.true c.step.ensures.turn c.step.ensures.state c.in-Went.is in
    let own = c.own_end.ensures c.args.machine.now c.loop-orders.orders (add-one c.loop-orders.orders)
    (c.counter.ensures.is ∙ ap (λ (x : State). x.counter) t.0.state)
    (c.is_entering-entered.ensures ∙ ap enters w.state) in
    let count : c.step.new.self.orders ≤ c.args.machine.now.orders + (c.loop-orders.orders + 1) =
    omega (arith, c.step.ensures.count, c.loop-orders.invariant.count) in
    record {
      ends = Ends-owns t.0 t.1 (sym own ∙ c.in-Some.is);
      state = t.0.state;
      free = t.0.free;
      most = omega (arith, c.loop-orders-test.true);
      count = count;
      checkpoints = λ start is few are. c.save.ensures start (after_from _ _ _ _ _ t.0.state is)
          (omega (arith, count, few)) (c.loop-orders.invariant.checkpoints start is few are);
    }

pub loop-orders-preserved : goal.loop-orders-preserved
loop-orders-preserved c =
    let w = c.loop-orders.invariant.walking in
    let t = Next-taken w c.loop-orders-test.true c.step.ensures.turn c.step.ensures.state c.in-Went.is in
    let own = c.own_end.ensures c.args.machine.now c.loop-orders.orders (add-one c.loop-orders.orders)
    (c.counter.ensures.is ∙ ap (λ (x : State). x.counter) t.0.state)
    (c.is_entering-entered.ensures ∙ ap enters w.state) in
    let count : c.step.new.self.orders ≤ c.args.machine.now.orders + (c.loop-orders.orders + 1) =
    omega (arith, c.step.ensures.count, c.loop-orders.invariant.count) in
    record {
      walking = goes_on t.0 t.1 (sym own ∙ c.in_default-own_end.is);
      count = count;
      checkpoints = λ start is few are. c.save.ensures start (after_from _ _ _ _ _ t.0.state is)
          (omega (arith, count, few)) (c.loop-orders.invariant.checkpoints start is few are);
    }

pub returns : goal.returns
returns c =
    let e : c.loop-orders.orders ≡ c.args.left =
    omega (arith, c.loop-orders-test.false, c.loop-orders.auto.orders-end) in
    let w = at_limit e c.loop-orders.invariant.walking in
    record {
      ends = Ends-limits w;
      state = w.state;
      free = w.free;
      most = omega arith;
      count = omega (arith, c.loop-orders.invariant.count, e);
      checkpoints = c.loop-orders.invariant.checkpoints;
    }
