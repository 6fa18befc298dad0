use Rattle.ed_programs.proofs.Kit.{rules}
use Rattle.ed_programs.proofs.InterludeRuns.{each_number, interlude_prints_of}
use Rattle.ed_programs.proofs.interlude.interlude_program.Goals as goal

pub returns-clause-law : goal.returns-clause-law
returns-clause-law c = search (rules, interlude_prints_of, each_number)
