use Rattle.ed_headline.proofs.Kit.{run_outcome}
use Rattle.ed_tapes.proofs.Keeping.{is_fitting-printable}
use Rattle.ed_answers.proofs.Sources.{run_replied, source_refused, source_unanswered}
use Rattle.ed_answers.proofs.source.run.Goals as goal

pub returns-in_err-ran : goal.returns-in_err-ran
returns-in_err-ran c =
    source_refused _ (run_outcome c.args.settings) c.args.input.now _ _ c.in_err-ran.ensures.is c.from_residual.ensures

pub returns-in_err-post_mortem_reply : goal.returns-in_err-post_mortem_reply
returns-in_err-post_mortem_reply c =
    source_unanswered _
    (run_outcome c.args.settings) c.args.input.now _ c.from_residual-in_err-post_mortem_reply.ensures

pub post_mortem_reply-requires : goal.post_mortem_reply-requires
post_mortem_reply-requires c =
    is_fitting-printable c.args.settings c.in_ok-ran.field-0.ran.machine c.requires c.in_ok-ran.ensures.size
    c.in_ok-ran.ensures.orders

pub returns : goal.returns
returns c =
    run_replied c.args.settings c.args.input.now _ _ c.in_ok-ran.ensures.is c.in_ok-post_mortem_reply.ensures
