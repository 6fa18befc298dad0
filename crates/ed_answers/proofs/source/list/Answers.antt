use Rattle.ed_headline.proofs.Kit.{listing_outcome}
use Rattle.ed_answers.proofs.Sources.{linked_replied, source_refused, source_unanswered}
use Rattle.ed_answers.proofs.source.list.Goals as goal

pub returns-in_err-linked : goal.returns-in_err-linked
returns-in_err-linked c =
    source_refused _ listing_outcome c.args.input.now _ _ c.in_err-linked.ensures c.from_residual.ensures

pub returns-in_err-list_linked : goal.returns-in_err-list_linked
returns-in_err-list_linked c =
    source_unanswered _ listing_outcome c.args.input.now _ c.from_residual-in_err-list_linked.ensures

pub list_linked-requires : goal.list_linked-requires
list_linked-requires c = let accepted = c.in_ok-linked.ensures in (accepted.0, accepted.2)

pub returns : goal.returns
returns c =
    linked_replied _ listing_outcome c.args.input.now _ _ c.in_ok-linked.ensures c.in_ok-list_linked.ensures
