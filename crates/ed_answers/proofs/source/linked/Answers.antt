use Rattle.ed_answers.proofs.Sources.{form_passed_on, meaning_refused, read_linked}
use Rattle.ed_answers.proofs.source.linked.Goals as goal

pub returns-in_err-parse-clause-refused : goal.returns-in_err-parse-clause-refused
returns-in_err-parse-clause-refused c =
    form_passed_on c.args.size c.args.input.now _ _ c.in_err-parse.ensures.has_fault c.from_residual.ensures

pub returns-clause-accepted : goal.returns-clause-accepted
returns-clause-accepted c = read_linked c.args.size c.link.result c.in_ok-parse.ensures.says c.link.ensures.linked

pub returns-clause-refused : goal.returns-clause-refused
returns-clause-refused c = meaning_refused c.args.size c.link.result c.in_ok-parse.ensures.says c.link.ensures.fault
