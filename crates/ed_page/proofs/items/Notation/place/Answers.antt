use Rattle.ed_page.proofs.Kit.{common_steps, arith}
use Rattle.ed_page.proofs.items.Notation.place.Goals.{then-from-lt-LOCATIONS, else-from-lt-LOCATIONS}
use Rattle.ed_page.proofs.items.Notation.place.Goals as goal

pub returns : goal.returns
returns c = grind (arith, common_steps)
