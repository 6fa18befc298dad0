use Rattle.ed_interlude.proofs.Kit.{Err, err_from_is_err_and, ap, arith, length, refl, sym, ℕ, ◌*◌, ◌+◌, ◌-◌, ◌<◌, ◌∙◌}
use Rattle.ed_interlude.proofs.Kit.{◌≤◌, stop_faults, PartsEnd}
use Rattle.std.proofs.Common.{lit≤, le_of_eq, le_trans, le-add_right, zero-le}
use Rattle.ed_interlude.proofs.Passing.{ahead_first, answers_broken, answers_over, goes_onward}
use Rattle.ed_interlude.proofs.Reached.{each_reached}
use Rattle.ed_interlude.proofs.Runs.{each_end}
use Rattle.ed_interlude.proofs.Tales.{each_told_once}
use Rattle.ed_interlude.proofs.tape.run_parts.Goals as goal

-- sums over plain numbers
more_parts : (number done now : ℕ) → 2 * number ≤ done + 2 → done + 2 ≤ now → 2 * (number + 1) ≤ now + 2
more_parts number done now many later = omega (arith, many, later)

more_orders : (new old first done now : ℕ) → new ≤ old + (now - done) → done + 2 ≤ now → old ≤ first + done
    → new ≤ first + now
more_orders new old first done now soon later so_far = omega (arith, soon, later, so_far)

nearer : (limit done now : ℕ) → done + 2 ≤ now → now ≤ limit → limit - now < limit - done
nearer limit done now later within = omega (arith, later, within)

pub parts-init : goal.parts-init
parts-init g c =
    let whole = ap length c.rows_left-rows.ensures in
    record {
      ahead = ahead_first _ _ _ _;
      back = λ ne. absurd (ne refl);
      whole = whole;
      rows = le_of_eq (sym whole);
      done = zero-le;
      many = lit≤ tt;
      orders = le-add_right _ _;
      faults = refl;
    }

pub returns-in-Ended : goal.returns-in-Ended
returns-in-Ended g c =
    let i = c.parts.invariant in
    record {
      tells = answers_over _ c.from.ensures i.whole i.ahead (rw c.in-Ended.is at c.in_ok-end.ensures.passes);
      faults = c.in_ok-end.ensures.faults ∙ i.faults;
      law = each_told_once;
      reached = each_reached;
      runs = each_end;
    }

pub returns-in_err-end : goal.returns-in_err-end
returns-in_err-end g c =
    let p = err_from_is_err_and c.from_residual.result c.from_residual.ensures.1 in
    let i = c.parts.invariant in
    let fault = c.in_err-end.field-0.0 in
    rw (p.1, p.2) (record {
      tells = answers_broken _ c.from.ensures i.whole i.ahead fault c.run_part.new.machine c.in_err-end.ensures.passes;
      faults = c.in_err-end.ensures.faults ∙ ap (stop_faults {T = PartsEnd} (Err fault)) i.faults;
      law = each_told_once;
      reached = each_reached;
      runs = each_end;
    })

pub parts-preserved : goal.parts-preserved
parts-preserved g c =
    let i = c.parts.invariant in
    let o = goes_onward _ c.from.ensures i.whole i.ahead (rw c.in-Returned.is at c.in_ok-end.ensures.passes) in
    record {
      ahead = o.ahead;
      back = λ ne. o.home;
      whole = i.whole;
      rows = le_trans o.later.fewer i.rows;
      done = o.later.within;
      many = more_parts _ _ _ i.many o.later.later;
      orders = more_orders _ _ _ _ _ o.later.soon o.later.later i.orders;
      faults = c.in_ok-end.ensures.faults ∙ i.faults;
    }

pub overflow_add-number : goal.overflow_add-number
overflow_add-number g c =
    omega (arith, c.parts.invariant.many, c.parts.invariant.done, c.ranges.limit)

pub parts-smaller : goal.parts-smaller
parts-smaller g c =
    let i = c.parts.invariant in
    let o = goes_onward _ c.from.ensures i.whole i.ahead (rw c.in-Returned.is at c.in_ok-end.ensures.passes) in
    nearer _ _ _ o.later.later o.later.within

pub run_part-requires-clause-orders : goal.run_part-requires-clause-orders
run_part-requires-clause-orders g c =
    omega (arith, c.requires.orders, c.from.ensures, c.parts.invariant.orders, c.parts.invariant.done)
