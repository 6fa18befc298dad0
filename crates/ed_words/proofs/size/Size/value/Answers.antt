use Rattle.ed_words.proofs.SizeLemmas.{within_is}
use Rattle.ed_words.proofs.size.Size.value.Goals as goal

pub returns-in-Small-clause-law : goal.returns-in-Small-clause-law
returns-in-Small-clause-law c = within_is

pub returns-in-Full-clause-law : goal.returns-in-Full-clause-law
returns-in-Full-clause-law c = within_is
