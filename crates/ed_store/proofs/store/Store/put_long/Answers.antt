use Rattle.ed_store.proofs.PackedLemmas.{put_long_is}
use Rattle.ed_store.proofs.store.Store.put_long.Goals as goal

pub returns : goal.returns
returns c = rw (c.from.ensures, c.value.ensures.is, ← c.self.view_is)
    (put_long_is c.self.inside.cells.items c.args.a c.args.long)
