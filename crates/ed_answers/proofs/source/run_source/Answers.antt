use Rattle.ed_tapes.specs.declared.reply.Rejection.TheVariants as rejection
use Rattle.ed_answers.proofs.Sources.{source_not_run}
use Rattle.ed_answers.proofs.source.run_source.Goals as goal

pub returns-in_err-linked-clause-is : goal.returns-in_err-linked-clause-is
returns-in_err-linked-clause-is c =
    source_not_run c.args.settings c.args.input.now _ _ c.in_err-linked.ensures c.from_residual.ensures

pub returns-in_err-run_linked-clause-is : goal.returns-in_err-run_linked-clause-is
returns-in_err-run_linked-clause-is c =
    source_not_run c.args.settings c.args.input.now rejection.Memory _ tt c.from_residual-in_err-run_linked.ensures

pub run_linked-requires : goal.run_linked-requires
run_linked-requires c = let accepted = c.in_ok-linked.ensures in (accepted.0, accepted.2)

pub returns-clause-is : goal.returns-clause-is
returns-clause-is c =
    let accepted = c.in_ok-linked.ensures in
    (accepted.0, accepted.1, c.in_ok-run_linked.ensures.is accepted.0 accepted.2)
