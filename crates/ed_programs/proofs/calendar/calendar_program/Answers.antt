use Rattle.ed_programs.proofs.Kit.{rules}
use Rattle.ed_programs.proofs.CalendarRuns.{each_month}
use Rattle.ed_programs.proofs.TapeRuns.{tape_prints_of}
use Rattle.ed_programs.proofs.calendar.calendar_program.Goals as goal

pub returns-clause-law : goal.returns-clause-law
returns-clause-law c = search (rules, tape_prints_of, each_month)
