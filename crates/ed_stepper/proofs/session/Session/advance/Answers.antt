use Rattle.ed_stepper.proofs.Kit.{State, AreObeyed, state_after, after_sum, free_sum, ap, arith, subst, sym, ◌+◌, ◌∙◌}
use Rattle.ed_stepper.proofs.Kit.{Moves, Stand, Moved}
use Rattle.ed_stepper.proofs.Keeping.{moves_so}
use Rattle.ed_stepper.proofs.session.Session.advance.Goals as goal

pub invariant_of-self : goal.invariant_of-self
invariant_of-self c =
    let i = c.self.invariant in
    let w = c.walk-walked.ensures in
    record {
      is = w.state ∙ ap (state_after c.walk-walked.result.orders) i.is ∙ sym (after_sum _ _ _);
      count = omega (arith, w.count, i.count);
      free = free_sum _ _ _ i.free (subst (λ (x : State). AreObeyed c.walk-walked.result.orders x) i.is w.free);
      kept = w.checkpoints c.self.inside.start i.is i.count i.kept;
      most = omega (arith, w.most, i.most);
      room = i.room;
    }

pub returns : goal.returns
returns c =
    let i = c.self.invariant in
    let w = c.walk-walked.ensures in
    let s : Stand = record { start = c.self.inside.start; limit = c.self.inside.limit; done = c.self.inside.done } in
    let t : Stand = record {
      start = c.self.inside.start;
      limit = c.self.inside.limit;
      done = c.self.inside.done +
          c.walk-walked.result.orders;
    } in
    let m : Moved = record {
      at = c.counter.result;
      done = c.self.inside.done + c.walk-walked.result.orders;
      end =
          c.walk-walked.result.end;
    } in
    subst (λ (x : Stand). Moves c.args.aim x t m) c.self.view_is
    (moves_so i.is w.ends w.state c.counter.ensures.is)
