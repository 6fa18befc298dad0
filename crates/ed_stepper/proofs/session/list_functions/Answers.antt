use Rattle.ed_stepper.proofs.Kit.{next_state, no_step, arith, refl, ◌∙◌}
use Rattle.ed_stepper.proofs.Listed.{listed_more, listed_none}
use Rattle.ed_stepper.proofs.session.list_functions.Goals as goal

pub loop-done-init : goal.loop-done-init
loop-done-init c = record {
  is = no_step _;
  count = omega arith;
  listed = listed_none _ _;
  few = omega arith;
  room = refl;
}

pub loop-done-preserved : goal.loop-done-preserved
loop-done-preserved c =
    let i = c.loop-done.invariant in
    record {
      is = next_state _ _ i.is c.step.ensures.state;
      count = omega (arith, c.step.ensures.count, i.count);
      listed = listed_more _ _ _ c.push_reserved.ensures.items i.listed c.next_function.ensures i.is;
      few = omega (arith, c.push_reserved.ensures.len, i.few);
      room = c.push_reserved.ensures.capacity ∙ i.room;
    }
