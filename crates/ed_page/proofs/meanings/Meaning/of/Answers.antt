use Rattle.ed_page.proofs.Kit.{rules}
use Rattle.ed_page.proofs.Letters.{letter_is}
use Rattle.ed_page.proofs.meanings.Meaning.of.Goals as goal

pub returns : goal.returns
returns c = search (rules, letter_is)
