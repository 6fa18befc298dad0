use Rattle.ed_store.proofs.Kit.{ap, sym, ◌%◌, ◌/◌, ◌^◌, ◌∙◌, Cells, short_at}
use Rattle.ed_store.proofs.PackedLemmas.{short_low, short_high, high_fits, cell_read, is_store}
use Rattle.ed_store.proofs.store.Store.short.Goals.{then-a-eq0, else-a-eq0}
use Rattle.ed_store.proofs.store.Store.short.Goals as goal

pub returns-clause-is : goal.returns-clause-is
returns-clause-is c =
    let cs = c.self.inside.cells.items in
    let cell = cell_read cs c.args.a c.from.result _ c.self.invariant c.requires c.from.ensures c.index-cell.ensures in
    let now = ap (λ (x : Cells). short_at x c.args.a) c.self.view_is in
    let small = c.self.invariant.fits (c.args.a / 2) in
    elim c.if-a-eq0.branch [
      | then-a-eq0 w ↦ c.of_number.ensures ∙ ap (λ n. n % 2 ^ 17) (w.half-is ∙ cell)
          ∙ sym (short_low cs c.args.a w.if-a-eq0.true) ∙ now
      | else-a-eq0 w ↦ c.of_number.ensures ∙ ap (λ n. n % 2 ^ 17) (w.half-is ∙ ap (λ n. n / 2 ^ 18) cell)
          ∙ high_fits _ small ∙ sym (short_high cs c.args.a w.if-a-eq0.false) ∙ now
    ]

pub returns-clause-store : goal.returns-clause-store
returns-clause-store c = rw (← c.self.view_is) (is_store c.self.inside.cells.items c.self.invariant)
