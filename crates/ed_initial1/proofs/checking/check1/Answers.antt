use Rattle.ed_initial1.proofs.Unique.{one_verdict}
use Rattle.ed_initial1.proofs.checking.check1.Goals as goal

pub returns-clause-law : goal.returns-clause-law
returns-clause-law c = one_verdict
