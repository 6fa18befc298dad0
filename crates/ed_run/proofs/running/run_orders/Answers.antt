use Rattle.ed_run.proofs.Kit.{nat_le, Turn, ap, arith, false, inl, inr, length-append, refl, sym, true, ℕ, ◌+◌, ◌-◌}
use Rattle.ed_run.proofs.Kit.{◌<◌, ◌∙◌, ◌≡◌, ◌≤◌, ◌⊎◌, nat_tests, step, State, is_obeyed, end_by}
use Rattle.ed_machine.proofs.Keeping.{step_leaves}
use Rattle.ed_run.proofs.Pasts.{at_first, goes_on, is_full, Running-later, ends_here, ends_with_stop, full_ends}
use Rattle.ed_run.proofs.Pasts.{none_ends, Took-silent}
use Rattle.ed_run.proofs.running.run_orders.Goals as goal

pub loop-machine-init : goal.loop-machine-init
loop-machine-init c =
    let none : 0 ≡ c.args.machine.now.orders - c.args.machine.now.orders = omega arith in
    record { running = Running-later (at_first _ _ _ _) none; later = omega arith; below = omega arith }

-- a batch begins with the room that it has
begun : {P : Type 0} (orders end n room : ℕ) → end ≡ orders + n → (n ≤ room) ⊎ ((n ≡ 1) × P)
    → (end - orders ≤ room) ⊎ ((end ≡ orders + 1) × P)
begun orders end n room is (inl free) = inl (omega arith)
begun orders end n room is (inr last) = let one = last.0 in inr (omega arith, last.1)

pub loop-batch-init : goal.loop-batch-init
loop-batch-init c =
    let before = c.loop-machine.invariant in
    record {
      running = before.running;
      later = before.later;
      below = omega arith;
      room = begun c.loop-machine.machine.orders _ _ _ (omega arith) c.batch-batch.ensures.room;
    }

pub loop-machine-preserved : goal.loop-machine-preserved
loop-machine-preserved c =
    let after = c.loop-batch.invariant in
    record { running = after.running; later = after.later; below = omega arith }

pub returns-in-NoOrder : goal.returns-in-NoOrder
returns-in-NoOrder c =
    let turn = sym c.step.ensures.turn ∙ c.in-NoOrder.is in
    rw (c.step.ensures.blocked (ap is_obeyed c.in-NoOrder.is))
    (ends_here c.loop-batch.invariant.running (omega arith)
    (ap (λ (t : Turn). end_by t (is_full c.loop-batch.paper)) turn))

pub returns-in-NoTape : goal.returns-in-NoTape
returns-in-NoTape c =
    let turn = sym c.step.ensures.turn ∙ c.in-NoTape.is in
    rw (c.step.ensures.blocked (ap is_obeyed c.in-NoTape.is))
    (ends_here c.loop-batch.invariant.running (omega arith)
    (ap (λ (t : Turn). end_by t (is_full c.loop-batch.paper)) turn))

pub returns-then-batch-eq0 : goal.returns-then-batch-eq0
returns-then-batch-eq0 c =
    let none = c.batch-batch.ensures.none c.if-batch-eq0.true in
    ends_here c.loop-machine.invariant.running (omega arith) (full_ends _ _ none.0 none.1)

pub returns-then-stops-resumes : goal.returns-then-stops-resumes
returns-then-stops-resumes c =
    ends_with_stop c.loop-batch.invariant.running (omega arith)
    (Took-silent (sym c.step.ensures.turn ∙ c.in-Stopped.is) c.step.ensures.state refl refl refl)
    (omega arith)

-- a batch has room for the code of its next order, or that order does not print
free : {P : Type 0} (end orders room codes : ℕ) → orders < end
    → (end - orders ≤ room - codes) ⊎ ((end ≡ orders + 1) × P) → (nat_le room codes ≡ false) ⊎ P
free end orders room codes below (inl left) = inl (not_full room codes (end - orders) (omega arith) left)
  where
    not_full : (room codes n : ℕ) → 0 < n → n ≤ room - codes → nat_le room codes ≡ false
    not_full room codes n some h = grind (arith, nat_tests)
free end orders room codes below (inr last) = inr last.1

-- after the order there is room for the orders that are left
left : {P : Type 0} (end orders after room next : ℕ) → (end - orders ≤ room) ⊎ ((end ≡ orders + 1) × P)
    → after ≡ orders + 1 → room ≤ next + 1 → end - after ≤ next
left end orders after room next (inl free) is most = omega arith
left end orders after room next (inr last) is most = let e = last.0 in omega arith

-- an order that is obeyed is counted
one_more : (m : State) {next : State} {turn : Turn} → next ≡ (step m).state → (step m).turn ≡ turn
    → is_obeyed turn ≡ true → next.orders ≡ m.orders + 1
one_more m state is obeyed = ap (λ (s : State). s.orders) state ∙ (step_leaves m).count (ap is_obeyed is ∙ obeyed)

pub loop-batch-preserved-in-Went : goal.loop-batch-preserved-in-Went
loop-batch-preserved-in-Went c =
    let r = c.loop-batch.invariant.running in
    let is = sym c.step.ensures.turn ∙ c.in-Went.is in
    let one = one_more c.loop-batch.machine c.step.ensures.state is refl in
    let here : c.loop-batch.machine.orders - c.args.machine.now.orders < c.args.limit = omega arith in
    let either = free _ _ _ _ (omega arith) c.loop-batch.invariant.room in
    record {
      running = Running-later (goes_on r here
          (Took-silent is c.step.ensures.state refl refl (omega arith))
          (none_ends _ _ (ap is_obeyed is) either) (omega (arith, r.past.within))) (omega arith);
      later = omega arith;
      below = omega arith;
      room = inl (left _ _ _ _ _ c.loop-batch.invariant.room one (omega arith));
    }

pub loop-batch-preserved-in-Printed : goal.loop-batch-preserved-in-Printed
loop-batch-preserved-in-Printed c =
    let r = c.loop-batch.invariant.running in
    let is = sym c.step.ensures.turn ∙ c.in-Printed.is in
    let one = one_more c.loop-batch.machine c.step.ensures.state is refl in
    let here : c.loop-batch.machine.orders - c.args.machine.now.orders < c.args.limit = omega arith in
    let either = free _ _ _ _ (omega arith) c.loop-batch.invariant.room in
    record {
      running = Running-later (goes_on r here
          (record {
            turn_is = is;
            state_is = c.step.ensures.state;
            paper_is = c.push_reserved.ensures;
            stops_are = omega arith;
          })
          (none_ends _ _ (ap is_obeyed is) either) (omega (arith, r.past.within))) (omega arith);
      later = omega arith;
      below = omega arith;
      room = inl (rw (c.push_reserved.ensures, length-append)
          (left _ _ _ _ _ c.loop-batch.invariant.room one (omega arith)));
    }

pub loop-batch-preserved : goal.loop-batch-preserved
loop-batch-preserved c =
    let r = c.loop-batch.invariant.running in
    let is = sym c.step.ensures.turn ∙ c.in-Stopped.is in
    let one = one_more c.loop-batch.machine c.step.ensures.state is refl in
    let here : c.loop-batch.machine.orders - c.args.machine.now.orders < c.args.limit = omega arith in
    let either = free _ _ _ _ (omega arith) c.loop-batch.invariant.room in
    record {
      running = Running-later (goes_on r here
          (Took-silent is c.step.ensures.state refl refl (omega arith))
          (none_ends _ _ (ap is_obeyed is) either)
          (omega (arith, r.past.within, c.if-stops-resumes.false))) (omega arith);
      later = omega arith;
      below = omega arith;
      room = inl (left _ _ _ _ _ c.loop-batch.invariant.room one (omega arith));
    }

pub loop-batch-smaller-in-Went : goal.loop-batch-smaller-in-Went
loop-batch-smaller-in-Went c =
    omega (arith, one_more c.loop-batch.machine c.step.ensures.state (sym c.step.ensures.turn ∙ c.in-Went.is) refl)

pub loop-batch-smaller-in-Printed : goal.loop-batch-smaller-in-Printed
loop-batch-smaller-in-Printed c =
    omega (arith, one_more c.loop-batch.machine c.step.ensures.state (sym c.step.ensures.turn ∙ c.in-Printed.is) refl)

pub loop-batch-smaller : goal.loop-batch-smaller
loop-batch-smaller c =
    omega (arith, one_more c.loop-batch.machine c.step.ensures.state (sym c.step.ensures.turn ∙ c.in-Stopped.is) refl)
