use Rattle.ed_programs.proofs.Kit.{rules, prints_as, all_fit}
use Rattle.ed_programs.proofs.GreatestRuns.{each_greatest}
use Rattle.ed_programs.proofs.greatest.greatest_program.Goals as goal

pub returns-clause-law : goal.returns-clause-law
returns-clause-law c = search (rules, prints_as, each_greatest, all_fit)
