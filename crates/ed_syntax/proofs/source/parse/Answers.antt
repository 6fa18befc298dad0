use Rattle.ed_syntax.proofs.FitLaws.{forms_are_spelled}
use Rattle.ed_syntax.proofs.SourceLaws.{each_answer_has_fault, each_answer_says, has_one_meaning}
use Rattle.ed_syntax.proofs.source.parse.Goals as goal

pub returns-clause-says : goal.returns-clause-says
returns-clause-says c =
    each_answer_says c.args.text.now c.program.result c.program.ensures.version c.program.ensures.lines

pub returns-clause-has_fault : goal.returns-clause-has_fault
returns-clause-has_fault c = each_answer_has_fault c.args.text.now c.program.result c.program.ensures.fault

pub returns-clause-one : goal.returns-clause-one
returns-clause-one c = has_one_meaning

pub returns-clause-forms : goal.returns-clause-forms
returns-clause-forms c = forms_are_spelled
