use Rattle.ed_stepper.proofs.Kit.{State, no_step, ap, arith, sym, ◌∙◌}
use Rattle.ed_stepper.proofs.Keeping.{no_checkpoints}
use Rattle.ed_stepper.proofs.session.Session.new.Goals as goal

pub invariant_of-result : goal.invariant_of-result
invariant_of-result c =
    let e = c.in-Ok.ensures in
    let n = ap (λ (x : State). x.orders) e in
    record {
      is = sym e ∙ no_step _;
      count = omega (arith, n);
      free = λ j h. absurd (omega arith);
      kept = no_checkpoints _ _ c.new.ensures.items;
      most = omega arith;
      room = omega (arith, n, c.requires);
    }
