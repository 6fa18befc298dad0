use Rattle.ed_io.proofs.Kit.{arith, refl, false≢true, take_rest}
use Rattle.ed_io.proofs.Memory.{hands_over, is_among, none_among}
use Rattle.ed_io.proofs.source.MemorySourceSource.read.Goals as goal

pub returns-then-fails : goal.returns-then-fails
returns-then-fails c =
    let counted = c.saturating_add-self-inside-then-fails.ensures in
    let found = c.if-fails.ensures.cases in
    rw (← c.self.view_is) (record {
      within = tt;
      bytes = refl;
      cause = record { later = omega arith; failed = omega arith };
      fails = (λ _. is_among found.0 c.deref.ensures.value found.1 (found.2 _), λ _. refl);
      count = tt;
      faults = counted;
      next = c.saturating_add-self-inside.ensures;
      same = (refl, refl);
    })

pub returns : goal.returns
returns c =
    let given = c.hand_over-count in
    let value = c.deref-2.ensures.value in
    let some = c.self.invariant.1 in
    let h = hands_over c.args.into.now value given.ensures.count given.ensures.bytes given.auto.into some in
    rw (← c.self.view_is) (record {
      within = h.within;
      bytes = (h.whole, h.ends);
      cause = record { later = omega arith; failed = tt };
      fails = (λ e. absurd (false≢true e), none_among c.deref.ensures.value c.if-fails.ensures.cases);
      count = rw (take_rest c.deref-2.result.now c.self.inside.at, value) at given.ensures.count;
      faults = refl;
      next = c.saturating_add-self-inside.ensures;
      same = (refl, refl);
    })
