use Rattle.ed_headline.proofs.Kit.{punch_outcome}
use Rattle.ed_answers.proofs.Sources.{linked_replied, punch_gives, source_refused, source_unanswered}
use Rattle.ed_answers.proofs.source.punch.Goals as goal

pub returns-in_err-linked : goal.returns-in_err-linked
returns-in_err-linked c =
    source_refused _ punch_outcome c.args.input.now _ _ c.in_err-linked.ensures c.from_residual.ensures

pub returns-in_err-text : goal.returns-in_err-text
returns-in_err-text c =
    source_unanswered _ punch_outcome c.args.input.now _ c.from_residual-in_err-text.ensures

pub returns : goal.returns
returns c =
    linked_replied _ punch_outcome c.args.input.now _ _ c.in_ok-linked.ensures
    (punch_gives _ c.in_ok-linked.linked c.done.result c.in_ok-text.ensures.is c.done.ensures)
