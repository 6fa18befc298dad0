use Rattle.ed_interlude.proofs.Kit.{[], arith, inl, length, refl, ◌+◌, ◌-◌, ◌∙◌, gains_none, faulty, PartsReport}
use Rattle.ed_interlude.proofs.Kit.{part_at_start, Faulty}
use Rattle.ed_interlude.proofs.Parting.{part_opens}
use Rattle.ed_interlude.proofs.Passing.{breaks_first}
use Rattle.ed_interlude.proofs.Rows.{entry_within, fault_within}
use Rattle.ed_interlude.proofs.part.run_part.Goals as goal

pub enter_part-requires-clause-arrival : goal.enter_part-requires-clause-arrival
enter_part-requires-clause-arrival g c =
    let a = c.in-Ok.ensures in
    let rows = c.rows.ensures ∙ a.rows_are in (
      a.entry,
      record {
        leads = record { well = a.well; comes = a.comes };
        at_is = c.entry.ensures ∙ a.entry_is;
        orders_are = c.orders.ensures ∙ a.orders_are;
        rows_are = λ i. c.args.part_start.rows - length (c.rows_left.ensures i) + rows i;
      },
    )

pub returns-in-Err-At : goal.returns-in-Err-At
returns-in-Err-At g c =
    let row = c.in-Err-At.row-is in
    let report : PartsReport = record {
      text = [];
      end = Faulty c.args.part_start.number (c.args.part_start.rows - length c.args.machine.now.tape + c.in-Err-At.row)
          c.in-Err-At.cause;
      last = c.args.machine.now;
    } in
    record {
      passes = (
        report,
        faulty c.in-Err-At.row c.in-Err-At.cause (rw c.in-Err-At.field-0-is at c.in-Err-At.ensures) refl,
        (λ i. Faulty c.args.part_start.number (c.args.part_start.rows - length (c.rows_left.ensures i) + row i)
            (c.in-Err-At.cause-is i)),
        refl,
        gains_none _,
      );
      faults = refl;
    }

pub returns-in-Err-Memory : goal.returns-in-Err-Memory
returns-in-Err-Memory g c =
    let p = part_at_start c.args.part_start c.args.machine.now in
    record {
      passes = (
        breaks_first c.args.part_start.limit c.args.part_start.rows p _
            (part_opens p c.requires.back),
        inl (refl, refl),
      );
      faults = refl;
    }

pub overflow_add-arrival : goal.overflow_add-arrival
overflow_add-arrival g c =
    let a = c.in-Ok.ensures in
    let p = part_at_start c.args.part_start c.args.machine.now in
    let within = entry_within p a.entry (record { well = a.well; comes = a.comes }) in
    omega (arith, c.requires.rows, c.requires.tape, c.rows.ensures, a.rows_are, within)

pub overflow_add-result : goal.overflow_add-result
overflow_add-result g c =
    let p = part_at_start c.args.part_start c.args.machine.now in
    let within = fault_within p c.in-Err-At.row c.in-Err-At.cause (rw c.in-Err-At.field-0-is at c.in-Err-At.ensures) in
    omega (arith, c.requires.rows, c.requires.tape, c.in-Err-At.row-is, within)
