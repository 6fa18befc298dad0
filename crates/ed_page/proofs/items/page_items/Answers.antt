use Rattle.ed_page.proofs.ItemRows.{placing_law}
use Rattle.ed_page.proofs.items.page_items.Goals as goal

pub returns-clause-law : goal.returns-clause-law
returns-clause-law c = placing_law
