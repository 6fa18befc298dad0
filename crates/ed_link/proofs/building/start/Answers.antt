use Rattle.ed_link.proofs.Kit.{refl, rules}
use Rattle.ed_link.proofs.Lengths.{empty_is}
use Rattle.ed_link.proofs.building.start.Goals as goal

pub returns : goal.returns
returns c = (
  c.new.ensures.items,
  empty_is c.in_ok-table.table.items (c.in_ok-table.ensures.items_if_clones_equal (λ y cloned. search rules)),
  refl,
  c.new-2.ensures.items,
  c.new-3.ensures.items,
)
