use Rattle.ed_notation.proofs.Contents.{content_is}
use Rattle.ed_notation.proofs.Laws.{reading_is_rules}
use Rattle.ed_notation.proofs.checking.check.Goals as goal

pub returns-clause-program : goal.returns-clause-program
returns-clause-program c = reading_is_rules

pub returns-clause-contents : goal.returns-clause-contents
returns-clause-contents c = content_is
