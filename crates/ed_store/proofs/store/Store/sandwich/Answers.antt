use Rattle.ed_store.proofs.Kit.{ap, nat_eq, sym, ◌%◌, ◌/◌, ◌^◌, ◌∙◌, Cells, sandwich_at}
use Rattle.ed_store.proofs.PackedLemmas.{digit_is, cell_read}
use Rattle.ed_store.proofs.store.Store.sandwich.Goals as goal

pub returns : goal.returns
returns c =
    let cs = c.self.inside.cells.items in
    let cell = cell_read cs c.args.a c.from.result _ c.self.invariant c.requires c.from.ensures c.index.ensures in
    ap (λ n. nat_eq (n / 2 ^ 17 % 2) 1) cell ∙ sym (digit_is cs c.args.a)
    ∙ ap (λ (x : Cells). sandwich_at x c.args.a) c.self.view_is
