use Rattle.ed_tapes.proofs.Kit.{rules}
use Rattle.ed_tapes.proofs.Checks.{entry_found, fault_found}
use Rattle.ed_tapes.proofs.check.check_rows.Goals as goal

pub returns-in-Ok : goal.returns-in-Ok
returns-in-Ok c =
    entry_found c.args.settings _ c.in-Ok.ensures c.entry.ensures c.orders.ensures c.rows.ensures c.entry_reply.ensures

pub returns-in_ok-tape_fault-in-Err : goal.returns-in_ok-tape_fault-in-Err
returns-in_ok-tape_fault-in-Err c =
    fault_found c.args.settings c.args.rows.now c.in-Err.fault _ c.in-Err.ensures (search rules)
    c.in_ok-tape_fault-in-Err.ensures c.refusal.ensures
