use Rattle.ed_syntax.proofs.Kit.{rules}
use Rattle.ed_syntax.proofs.Programs.{fault_step, program_step}
use Rattle.ed_syntax.proofs.source.lines.Goals as goal

pub loop-rest-preserved : goal.loop-rest-preserved
loop-rest-preserved c = search (rules, program_step)

pub returns-in_err-form : goal.returns-in_err-form
returns-in_err-form c = search (rules, fault_step)
