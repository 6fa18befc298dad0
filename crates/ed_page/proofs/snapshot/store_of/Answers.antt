use Rattle.ed_page.proofs.Kit.{rules}
use Rattle.ed_page.proofs.Stores.{cleared_store, same_cells}
use Rattle.ed_page.proofs.snapshot.store_of.Goals as goal

pub loop-k-init : goal.loop-k-init
loop-k-init c = search (rules, cleared_store)

pub returns : goal.returns
returns c s store pictures = search (rules, same_cells)
