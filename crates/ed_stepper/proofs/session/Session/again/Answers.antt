use Rattle.ed_stepper.proofs.Kit.{State, state_after, ap, subst, sym, ◌∙◌, ◌≡◌, IsCheckpoint, Stand}
use Rattle.std.proofs.Common.{IfOk}
use Rattle.ed_stepper.proofs.Keeping.{from_checkpoint}
use Rattle.ed_stepper.proofs.session.Session.again.Goals as goal

pub returns-in-Some-clause-is : goal.returns-in-Some-clause-is
returns-in-Some-clause-is c =
    let checkpoint = c.index-checkpoint.result.now in
    let found = c.in-Some.ensures in
    let all = c.deref.ensures.value in
    let good : IsCheckpoint c.self.inside.start checkpoint =
    subst (λ m. IsCheckpoint c.self.inside.start m) (sym c.index-checkpoint.ensures)
    (c.self.invariant.kept c.in-Some.place checkpoint (rw all at found.0)) in
    let low = rw (all, sym c.index-checkpoint.ensures) at (found.1 checkpoint) in
    let at = from_checkpoint c.self.inside.start checkpoint c.args.done good low in
    let start = ap (λ (x : Stand). state_after c.args.done x.start) c.self.view_is in
    subst (λ (x : State). IfOk c.replay.result (λ m. m ≡ x)) (at ∙ start) c.replay.ensures.is
