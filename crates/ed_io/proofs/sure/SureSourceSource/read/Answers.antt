use Rattle.ed_io.proofs.Kit.{arith, refl, take_rest}
use Rattle.std.proofs.Common.{lit≤}
use Rattle.ed_io.proofs.Memory.{hands_over}
use Rattle.ed_io.proofs.sure.SureSourceSource.read.Goals as goal

pub returns : goal.returns
returns c =
    let given = c.hand_over-count in
    let value = c.deref.ensures.value in
    let h = hands_over c.args.into.now value given.ensures.count given.ensures.bytes given.auto.into (lit≤ tt) in
    rw (← c.self.view_is) (record {
      within = h.within;
      bytes = (h.whole, h.ends);
      cause = record { later = omega arith; failed = tt };
      faults = refl;
      sure = refl;
      count = omega (arith, rw (take_rest c.deref.result.now c.self.inside.at, value) at given.ensures.count);
    })
