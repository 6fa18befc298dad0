use Rattle.ed_top.proofs.Kit.{subst, refusal, Gives}
use Rattle.ed_top.proofs.Scripts.{far_given, never_refused, played_given}
use Rattle.ed_top.proofs.step.script_reply.Goals as goal

pub returns-in-Ok : goal.returns-in-Ok
returns-in-Ok c = λ commands is.
    played_given c.args.script.now commands c.args.session.now _ c.in-Ok.text c.done.result is c.in-Ok.ensures
    c.done.ensures

pub returns-in_ok-back_too_far-in-Err-BackTooFar : goal.returns-in_ok-back_too_far-in-Err-BackTooFar
returns-in_ok-back_too_far-in-Err-BackTooFar c = λ commands is.
    far_given c.args.script.now commands c.args.session.now _ c.in-Err-BackTooFar.field-0 c.in-Err-BackTooFar.line
    c.in-Err-BackTooFar.obeyed c.refusal.result is c.in-Err-BackTooFar.ensures c.in-Err-BackTooFar.field-0-is
    (subst (λ t. Gives c.refusal.result (refusal t)) (c.in_ok-back_too_far-in-Err-BackTooFar).ensures c.refusal.ensures)

pub unreachable-requires : goal.unreachable-requires
unreachable-requires c =
    never_refused c.args.script.now c.args.session.now _ c.in-Err-BadCommand.field-0 _ c.requires
    c.in-Err-BadCommand.ensures c.in-Err-BadCommand.field-0-is
