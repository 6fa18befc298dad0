use Rattle.ed_page.proofs.Kit.{rules}
use Rattle.ed_page.proofs.items.rows_to_entry.Goals as goal

pub returns : goal.returns
returns c = search rules
