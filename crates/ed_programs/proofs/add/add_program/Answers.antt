use Rattle.ed_programs.proofs.Kit.{rules, prints_as}
use Rattle.ed_programs.proofs.AddRuns.{each_sum}
use Rattle.ed_programs.proofs.add.add_program.Goals as goal

pub returns-clause-law : goal.returns-clause-law
returns-clause-law c = search (rules, prints_as, each_sum)
