use Rattle.ed_io.proofs.Kit.{arith, false, length, refl, sym, true, ◌<◌, ◌≡◌, false≢true, nat_tests}
use Rattle.std.proofs.Common.{◌⊎◌, append-nil, inl, inr}
use Rattle.ed_io.proofs.Memory.{is_among, none_among}
use Rattle.ed_io.proofs.sink.MemorySinkSink.write.Goals.{then-free-eq0, else-free-eq0, then-fails-via-then-fails}
use Rattle.ed_io.proofs.sink.MemorySinkSink.write.Goals.{then-fails-via-else-fails+then-not-is_empty}
use Rattle.ed_io.proofs.sink.MemorySinkSink.write.Goals as goal

-- a call that does not fail has neither cause
neither : {A B : Type 0} → (A → false ≡ true) → (B → false ≡ true) → A ⊎ B → false ≡ true
neither f g (inl a) = f a
neither f g (inr b) = g b

pub returns : goal.returns
returns c =
    let here = c.self.inside in
    let least = c.min.ensures in
    let count = c.min-count.ensures in
    let len = c.len.ensures in
    let some = c.self.invariant.2 in
    let roomy : 0 < length c.args.piece.now → length here.bytes.items < here.room =
    λ l. elim c.if-free-eq0.branch [
      | then-free-eq0 w ↦ grind (arith, nat_tests, w.value-is, w.is_empty.ensures, c.if-not-is_empty.false)
      | else-free-eq0 w ↦ omega (arith, w.if-free-eq0.false)
    ] in
    rw (← c.self.view_is) (record {
      within = omega (arith, least, count);
      some = λ l. omega (arith, least, count, len, some, roomy l);
      bytes = c.keep.ensures.items;
      cause = record { later = omega arith; failed = tt };
      fails = (
        λ e. absurd (false≢true e),
        neither (none_among c.deref.ensures.value c.if-fails.ensures.cases)
            (λ h. absurd (omega (arith, roomy h.1, h.0))),
      );
      count = omega (arith, least, count, len);
      faults = refl;
      next = c.saturating_add-self-inside.ensures;
      same = (refl, refl, refl);
    })

pub returns-then-fails : goal.returns-then-fails
returns-then-fails c =
    let counted = c.saturating_add-self-inside-then-fails.ensures in
    rw (← c.self.view_is) (record {
      within = tt;
      some = tt;
      bytes = sym (append-nil _);
      cause = record { later = omega arith; failed = omega arith };
      fails = (
        λ _. elim c.then-fails.branch [
          | then-fails-via-then-fails w ↦
              let found = w.if-fails.ensures.cases in
              inl (is_among found.0 c.deref.ensures.value found.1 (found.2 _))
          | then-fails-via-else-fails+then-not-is_empty w ↦ elim w.if-free-eq0.branch [
            | then-free-eq0 v ↦ inr (
              omega (arith, v.if-free-eq0.true, c.len.ensures),
              grind (arith, nat_tests, v.value-is, v.is_empty.ensures, w.if-not-is_empty.true),
            )
            | else-free-eq0 v ↦
                absurd (grind (arith, nat_tests, v.value-is, v.if-free-eq0.false, w.if-not-is_empty.true))
          ]
        ],
        λ _. refl,
      );
      count = tt;
      faults = counted;
      next = c.saturating_add-self-inside.ensures;
      same = (refl, refl, refl);
    })
