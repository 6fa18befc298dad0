use Rattle.ed_store.proofs.Kit.{arith, ◌/◌}
use Rattle.ed_store.proofs.PackedLemmas.{put_low_is, put_high_is, cell_read, is_store}
use Rattle.ed_store.proofs.store.Store.put_short.Goals.{then-a-eq0, else-a-eq0}
use Rattle.ed_store.proofs.store.Store.put_short.Goals as goal

pub returns-clause-is : goal.returns-clause-is
returns-clause-is c =
    let cs = c.self.inside.cells.items in
    let cell = cell_read cs c.args.a c.from-pair.result _ c.self.invariant c.requires c.from-pair.ensures
    c.index-cell.ensures in
    let small = c.self.invariant.fits (c.args.a / 2) in
    let a = c.args.a in let word = c.args.word in let place = c.from-pair.ensures in
    elim c.if-a-eq0.branch [
      | then-a-eq0 w ↦ rw (w.t-18-is, place, ← c.self.view_is)
          (put_low_is cs a _ word w.if-a-eq0.true (omega arith) (omega arith))
      | else-a-eq0 w ↦ rw (w.t-18-is, place, ← c.self.view_is)
          (put_high_is cs a _ word w.if-a-eq0.false (omega arith) (omega arith))
    ]

pub returns-clause-store : goal.returns-clause-store
returns-clause-store c = rw (← c.self.view_is) (is_store c.self.inside.cells.items c.self.invariant)
