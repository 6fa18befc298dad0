use Rattle.ed_programs.proofs.Kit.{refl}
use Rattle.ed_programs.proofs.GuestRuns.{checks_from_main, each_guest}
use Rattle.ed_programs.proofs.GuestSample.{sample_is_checked}
use Rattle.ed_programs.proofs.Texts.{GivesProgram-written}
use Rattle.ed_programs.proofs.checked.checked_program.Goals as goal

pub returns-clause-is : goal.returns-clause-is
returns-clause-is c = GivesProgram-written refl _ _ _ _ refl c.program_of_text.ensures c.format.ensures.ok

pub returns-clause-sources : goal.returns-clause-sources
returns-clause-sources c = each_guest

pub returns-clause-law : goal.returns-clause-law
returns-clause-law c =
    checks_from_main c.program_of_text.result c.args.guest.now
    (returns-clause-is c)

pub returns-clause-sample : goal.returns-clause-sample
returns-clause-sample c = sample_is_checked
