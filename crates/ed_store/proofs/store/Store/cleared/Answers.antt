use Rattle.ed_store.proofs.Kit.{ap, ◌∙◌, unpacked_cells}
use Rattle.ed_store.proofs.PackedLemmas.{cleared_is, cleared_packed}
use Rattle.ed_store.proofs.store.Store.cleared.Goals as goal

pub invariant_of-result : goal.invariant_of-result
invariant_of-result c = rw c.in_ok-cells.ensures cleared_packed

pub returns : goal.returns
returns c = ap unpacked_cells c.in_ok-cells.ensures ∙ cleared_is
