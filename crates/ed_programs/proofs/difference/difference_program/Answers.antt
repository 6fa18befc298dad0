use Rattle.ed_programs.proofs.Kit.{rules, prints_as}
use Rattle.ed_programs.proofs.DifferenceRuns.{each_difference}
use Rattle.ed_programs.proofs.difference.difference_program.Goals as goal

pub returns-clause-law : goal.returns-clause-law
returns-clause-law c = search (rules, prints_as, each_difference)
