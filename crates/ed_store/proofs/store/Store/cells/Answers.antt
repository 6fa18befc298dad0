use Rattle.ed_store.proofs.Kit.{ap, get_or, ◌*◌, ◌∙◌, Cells, long_at}
use Rattle.ed_store.proofs.PackedLemmas.{cell_is}
use Rattle.ed_store.proofs.store.Store.cells.Goals as goal

pub returns-clause-long : goal.returns-clause-long
returns-clause-long c k below =
    ap (λ cs. get_or cs k 0) c.as_slice.ensures.value ∙ cell_is c.self.inside.cells.items k
    ∙ ap (λ (s : Cells). long_at s (2 * k)) c.self.view_is
