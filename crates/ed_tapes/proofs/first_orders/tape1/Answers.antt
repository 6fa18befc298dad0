use Rattle.ed_tapes.proofs.Kit.{tape1_outcome}
use Rattle.ed_tapes.specs.FirstOrders.{run1_of}
use Rattle.ed_tapes.proofs.Replies.{exactly_one, exactly_replied, none_replied, refusal_replied}
use Rattle.ed_tapes.proofs.Replies.{ran_gives_alone}
use Rattle.ed_tapes.proofs.first_orders.tape1.Goals as goal

pub returns-in_err-rows_of : goal.returns-in_err-rows_of
returns-in_err-rows_of c =
    refusal_replied _ c.args.input.now _ _
    (exactly_one (tape1_outcome c.args.settings)) c.in_err-rows_of.ensures.is c.from_residual.ensures

pub returns-in_err-ran : goal.returns-in_err-ran
returns-in_err-ran c =
    none_replied _ c.args.input.now _ (exactly_one (tape1_outcome c.args.settings)) c.from_residual-in_err-ran.ensures

pub returns-in_err-ended_reply : goal.returns-in_err-ended_reply
returns-in_err-ended_reply c =
    none_replied _ c.args.input.now _
    (exactly_one (tape1_outcome c.args.settings)) c.from_residual-in_err-ended_reply.ensures

pub returns : goal.returns
returns c =
    let s = c.args.settings in
    let ran = c.in_ok-ran.ensures in
    exactly_replied (tape1_outcome s) c.args.input.now _ _ c.in_ok-rows_of.ensures.is
    (ran_gives_alone (run1_of s _) ran.ending_is ran.state_is ran.codes_are c.in_ok-ended_reply.ensures)
