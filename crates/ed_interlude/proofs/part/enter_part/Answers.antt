use Rattle.ed_interlude.proofs.Kit.{Err, err_from_is_err_and, ap, arith, refl, ℕ, ◌+◌, ◌-◌, ◌<◌, ◌∙◌, ◌≡◌, ◌≤◌}
use Rattle.ed_interlude.proofs.Kit.{stop_faults, gains_none, cut, entry_done, finished}
use Rattle.ed_interlude.proofs.Kit.{part_at_start}
use Rattle.ed_interlude.specs.declared.part.PartOutcome.{PartOutcome}
use Rattle.ed_interlude.proofs.Passing.{behind_is, breaks_back, breaks_entry, entry_is, finishes_there, made_as}
use Rattle.ed_interlude.proofs.Passing.{passes_back}
use Rattle.ed_interlude.proofs.Programs.{home_within}
use Rattle.ed_interlude.proofs.part.enter_part.Goals as goal

-- the limit comes before the entry, or not
runs_out : (limit done orders cost : ℕ) → limit - done < orders → orders ≡ cost → done ≤ limit → limit < done + cost
runs_out limit done orders cost less same within = omega (arith, less, same, within)

still_left : (limit done orders cost : ℕ) → orders ≤ limit - done → orders ≡ cost → done ≤ limit → done + cost ≤ limit
still_left limit done orders cost more same within = omega (arith, more, same, within)

pub returns-then-left-arrival : goal.returns-then-left-arrival
returns-then-left-arrival g c =
    let a = c.requires.arrival in
    record {
      passes = (
        _,
        cut a.0 a.1.leads (runs_out _ _ _ _ c.if-left-arrival.true a.1.orders_are c.requires.done) refl,
        refl,
        c.obey_next.ensures.state,
        gains_none _,
      );
      faults = refl;
    }

pub returns-in_err-write_line : goal.returns-in_err-write_line
returns-in_err-write_line g c =
    let a = c.requires.arrival in
    let p = part_at_start c.args.part_start c.args.machine.now in
    let line = entry_is c.args.part_start.rows p a.0 a.1.at_is a.1.orders_are a.1.rows_are in
    let within : entry_done p a.0 ≤ c.args.part_start.limit =
    still_left _ _ _ _ c.if-left-arrival.false a.1.orders_are c.requires.done in
    let e = err_from_is_err_and c.from_residual.result c.from_residual.ensures.1 in
    let gains = c.in_err-write_line.ensures.whole _ (made_as _ _ _ line c.entry_text.ensures) in
    rw (e.1, e.2) (record {
      passes = breaks_entry _ c.args.part_start.rows p a.0 _ _ a.1.leads a.1.orders_are c.obey_next-2.ensures.state
          within c.in_err-write_line.field-0.0 gains c.in_err-write_line.ensures.memory;
      faults = c.in_err-write_line.ensures.faults;
    })

pub overflow_add-done : goal.overflow_add-done
overflow_add-done g c =
    let h = home_within _ _ _ c.in-Returned.ensures.meets.0 in
    omega (arith, h, c.requires.limit, c.requires.done, c.if-left-arrival.false)

pub returns-in-Finished : goal.returns-in-Finished
returns-in-Finished g c =
    let a = c.requires.arrival in
    let p = part_at_start c.args.part_start c.args.machine.now in
    let line = entry_is c.args.part_start.rows p a.0 a.1.at_is a.1.orders_are a.1.rows_are in
    let m = c.in-Finished.ensures.meets in
    let l = c.args.part_start.limit in
    record {
      passes = (
        _,
        finished a.0 m.0 _ a.1.leads (still_left _ _ _ _ c.if-left-arrival.false a.1.orders_are c.requires.done)
            (finishes_there l p a.0 a.1.orders_are c.obey_next-2.ensures.state m.1) refl,
        refl,
        behind_is l p a.0 a.1.orders_are c.obey_next-2.ensures.state m.0 m.2,
        c.in_ok-write_line.ensures.whole _ (made_as _ _ _ line c.entry_text.ensures),
      );
      faults = c.in_ok-write_line.ensures.faults;
    }

pub returns-in_ok-write_line-in-Returned : goal.returns-in_ok-write_line-in-Returned
returns-in_ok-write_line-in-Returned g c =
    let a = c.requires.arrival in
    let p = part_at_start c.args.part_start c.args.machine.now in
    let line = entry_is c.args.part_start.rows p a.0 a.1.at_is a.1.orders_are a.1.rows_are in
    let m = c.in-Returned.ensures.meets in
    record {
      passes = passes_back c.args.part_start.rows _ _ _ _ a.1.leads a.1.orders_are c.obey_next-2.ensures.state
          (still_left _ _ _ _ c.if-left-arrival.false refl c.requires.done) m.0 m.1 c.directive.ensures
          c.order-address.ensures.is c.returned_text.ensures
          (c.in_ok-write_line.ensures.whole _ (made_as _ _ _ line c.entry_text.ensures))
          c.in_ok-write_line-in-Returned.ensures.whole;
      faults = c.in_ok-write_line-in-Returned.ensures.faults ∙ c.in_ok-write_line.ensures.faults;
    }

pub returns-in_err-write_line-in-Returned : goal.returns-in_err-write_line-in-Returned
returns-in_err-write_line-in-Returned g c =
    let a = c.requires.arrival in
    let p = part_at_start c.args.part_start c.args.machine.now in
    let line = entry_is c.args.part_start.rows p a.0 a.1.at_is a.1.orders_are a.1.rows_are in
    let m = c.in-Returned.ensures.meets in
    let failed = c.in_err-write_line-in-Returned in
    let r = c.from_residual-in_err-write_line-in-Returned in
    let e = err_from_is_err_and r.result r.ensures.1 in
    rw (e.1, e.2) (record {
      passes = breaks_back c.args.part_start.rows _ _ _ _ a.1.leads a.1.orders_are c.obey_next-2.ensures.state
          (still_left _ _ _ _ c.if-left-arrival.false refl c.requires.done) m.0 m.1 c.directive.ensures
          c.order-address.ensures.is c.returned_text.ensures
          (c.in_ok-write_line.ensures.whole _ (made_as _ _ _ line c.entry_text.ensures)) failed.field-0.0
          failed.ensures.whole failed.ensures.memory;
      faults = failed.ensures.faults
          ∙ ap (stop_faults {T = PartOutcome} (Err failed.field-0.0)) c.in_ok-write_line.ensures.faults;
    })
