use Rattle.ed_tapes.proofs.FirstChecks.{program_found}
use Rattle.ed_tapes.proofs.first_orders.check_rows1.Goals as goal

pub returns-in-Ok : goal.returns-in-Ok
returns-in-Ok c =
    program_found _ c.in-Ok.ensures.answers c.orders.ensures c.rows.ensures c.entry_reply.ensures
