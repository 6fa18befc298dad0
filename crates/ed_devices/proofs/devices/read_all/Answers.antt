use Rattle.ed_devices.proofs.Kit.{Loses, next_count, [], ap, append-nil, arith, drop, inl, inr, length, List, Option, refl}
use Rattle.ed_devices.proofs.Kit.{rules, subst, sym, ℕ, ◌++◌, ◌∙◌, ◌≡◌, ◌≤◌, Text, length-append, err_from_is_err_and}
use Rattle.std.proofs.Common.{take}
use Rattle.std.proofs.lemmas.List.{take-append-le, length-take, length-take-le}
use Rattle.ed_io.proofs.Calls.{loses_more, loses_none, still_at_end}
use Rattle.ed_devices.proofs.devices.read_all.Goals.{else-loop-piece-test, then-loop-piece-test+in_ok-count+then-count-eq0}
use Rattle.ed_devices.proofs.devices.read_all.Goals as goal

-- no bytes were lost
lost_none : (before after : Option Text) (n : ℕ) (bytes : List ℕ) → n ≡ 0 → Loses before after (take n bytes)
    → Loses before after []
lost_none before after n bytes none lost = subst (λ (k : ℕ). Loses before after (take k bytes)) none lost

-- no more bytes were lost
lost_all : (before middle after : Option Text) (bytes : List ℕ) (n : ℕ) (more : List ℕ) → Loses before middle bytes
    → n ≡ 0 → Loses middle after (take n more) → Loses before after bytes
lost_all before middle after bytes n more lost none also =
    subst (λ (xs : List ℕ). Loses before after xs) (append-nil bytes)
    (loses_more before middle after bytes [] lost (lost_none middle after n more none also))

-- as many bytes are taken as are there at least
first_taken : (n : ℕ) (xs ys : List ℕ) → n ≤ length xs → length (take n (xs ++ ys)) ≡ n
first_taken n xs ys within = length-take-le n (xs ++ ys) (omega (arith, length-append xs ys))

pub loop-piece-init : goal.loop-piece-init
loop-piece-init g c = record {
  taken = rw c.new-input.ensures.items (loses_none _);
  few = omega (arith, c.new-input.ensures.len);
  faults = refl;
}

pub loop-piece-preserved : goal.loop-piece-preserved
loop-piece-preserved g c =
    let read = c.in_ok-count.ensures in
    let length_is = first_taken c.in_ok-count.count c.read.new.into
    (drop c.min-room.result c.loop-piece.piece) read.within in
    record {
      taken = rw
          (c.in_ok-extend_from_slice.ensures.items, take-append-le c.in_ok-count.count c.read.new.into _ read.within)
          (loses_more _ (g.S.Source.left c.loop-piece.source) _ _ _ c.loop-piece.invariant.taken read.bytes.0);
      few = omega (
        arith,
        c.in_ok-extend_from_slice.ensures.len,
        length_is,
        read.within,
        c.read.auto.into,
        length-take c.min-room.result c.loop-piece.piece,
      );
      faults = read.faults ∙ c.loop-piece.invariant.faults;
    }

pub returns-in_err-count : goal.returns-in_err-count
returns-in_err-count g c =
    let r = c.from_residual in
    let p = err_from_is_err_and r.result r.ensures.1 in
    rw (p.1, p.2) (record {
      bytes = tt;
      end = tt;
      short = λ same. absurd (cc);
      faults = c.in_err-count.ensures.faults ∙ ap next_count c.loop-piece.invariant.faults;
    })

pub returns-in_err-extend_from_slice : goal.returns-in_err-extend_from_slice
returns-in_err-extend_from_slice g c =
    let r = c.from_residual-in_err-extend_from_slice in
    let p = err_from_is_err_and r.result r.ensures.1 in
    rw (p.1, p.2) (record {
      bytes = tt;
      end = tt;
      short = λ same. absurd (cc);
      faults = c.in_ok-count.ensures.faults ∙ c.loop-piece.invariant.faults;
    })

pub returns : goal.returns
returns g c =
    let before = c.loop-piece.invariant in
    elim c.loop-piece-test.branch [
      | else-loop-piece-test w ↦ rw w.source-is (record {
        bytes = before.taken;
        end = inl (omega (arith, w.loop-piece-test.false, c.len.ensures, before.few));
        short = tt;
        faults = before.faults;
      })
      | then-loop-piece-test+in_ok-count+then-count-eq0 w ↦
          let read = w.in_ok-count.ensures in
          rw w.source-is (record {
            bytes = lost_all _ _ _ _ _ _ before.taken w.if-count-eq0.true read.bytes.0;
            end = inr (
              omega (arith, w.loop-piece-test.true, c.len.ensures),
              still_at_end _ _ (read.bytes.1 w.if-count-eq0.true (search rules))
                  (lost_none _ _ _ _ w.if-count-eq0.true read.bytes.0),
            );
            short = tt;
            faults = rw read.faults before.faults;
          })
    ]

pub loop-piece-smaller : goal.loop-piece-smaller
loop-piece-smaller g c =
    omega (
      arith,
      c.in_ok-extend_from_slice.ensures.len,
      first_taken c.in_ok-count.count c.read.new.into
          (drop c.min-room.result c.loop-piece.piece) c.in_ok-count.ensures.within,
    )

pub slice_bounds-extend_from_slice-end : goal.slice_bounds-extend_from_slice-end
slice_bounds-extend_from_slice-end g c = sym
    (first_taken c.in_ok-count.count c.read.new.into _ c.in_ok-count.ensures.within)
