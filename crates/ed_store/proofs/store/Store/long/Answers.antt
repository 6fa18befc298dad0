use Rattle.ed_store.proofs.Kit.{ap, sym, ◌∙◌, Cells, long_at}
use Rattle.ed_store.proofs.PackedLemmas.{long_is, cell_read}
use Rattle.ed_store.proofs.store.Store.long.Goals as goal

pub returns : goal.returns
returns c =
    let cs = c.self.inside.cells.items in
    c.of_number.ensures ∙ cell_read cs c.args.a c.from.result _ c.self.invariant c.requires c.from.ensures
    c.index.ensures
    ∙ sym (long_is cs c.args.a) ∙ ap (λ (x : Cells). long_at x c.args.a) c.self.view_is
