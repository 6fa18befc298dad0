use Rattle.ed_programs.proofs.Kit.{prints_as}
use Rattle.ed_programs.proofs.DecimalsMethod.{method_is_right}
use Rattle.ed_programs.proofs.DecimalsRuns.{hundred_run}
use Rattle.ed_programs.proofs.PartsOfE.{figures_are_carries, IsWholePart-hundred, one_number}
use Rattle.ed_programs.proofs.decimals.decimals_program.Goals as goal

pub returns-clause-law : goal.returns-clause-law
returns-clause-law c = prints_as _ c.filled_program.result c.filled_program.ensures hundred_run

pub returns-clause-of_e : goal.returns-clause-of_e
returns-clause-of_e c = IsWholePart-hundred

pub returns-clause-method : goal.returns-clause-method
returns-clause-method c = method_is_right

pub returns-clause-by_carries : goal.returns-clause-by_carries
returns-clause-by_carries c = figures_are_carries

pub returns-clause-one : goal.returns-clause-one
returns-clause-one c = one_number
