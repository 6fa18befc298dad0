use Rattle.ed_tapes.proofs.Kit.{[], refl, run_of, tape_outcome}
use Rattle.ed_tapes.proofs.Keeping.{is_fitting-printable}
use Rattle.ed_tapes.proofs.Replies.{exactly_one, exactly_replied, none_replied, refusal_replied}
use Rattle.ed_tapes.proofs.Replies.{ran_gives}
use Rattle.ed_tapes.proofs.tapes.tape.Goals as goal

pub returns-in_err-rows_of : goal.returns-in_err-rows_of
returns-in_err-rows_of c =
    refusal_replied _ c.args.input.now _ _
    (exactly_one (tape_outcome c.args.settings)) c.in_err-rows_of.ensures.is c.from_residual.ensures

pub returns-in_err-ran : goal.returns-in_err-ran
returns-in_err-ran c =
    none_replied _ c.args.input.now _ (exactly_one (tape_outcome c.args.settings)) c.from_residual-in_err-ran.ensures

pub returns-in_err-ended_reply : goal.returns-in_err-ended_reply
returns-in_err-ended_reply c =
    none_replied _ c.args.input.now _
    (exactly_one (tape_outcome c.args.settings)) c.from_residual-in_err-ended_reply.ensures

pub ended_reply-requires : goal.ended_reply-requires
ended_reply-requires c =
    is_fitting-printable c.args.settings c.in_ok-ran.ran.machine c.requires c.in_ok-ran.ensures.size
    c.in_ok-ran.ensures.orders

pub returns : goal.returns
returns c =
    let s = c.args.settings in
    let ran = c.in_ok-ran.ensures.is in
    exactly_replied (tape_outcome s) c.args.input.now _ _ c.in_ok-rows_of.ensures.is
    (ran_gives s.post_mortem [] (run_of s _) ran.ending_is ran.state_is ran.codes_are refl c.in_ok-ended_reply.ensures)
