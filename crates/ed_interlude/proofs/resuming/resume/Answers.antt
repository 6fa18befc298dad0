use Rattle.ed_interlude.proofs.Resumed.{resumed_load, total_resume}
use Rattle.ed_interlude.proofs.resuming.resume.Goals as goal

pub returns-clause-loads : goal.returns-clause-loads
returns-clause-loads c =
    resumed_load c.args.machine.now c.obey_orders.new.machine c.obey_orders.result c.word.ensures.store
    c.requires.returned
    (rw c.rows_left.ensures at c.obey_orders.ensures.ends) c.obey_orders.ensures.state

pub returns-clause-total : goal.returns-clause-total
returns-clause-total c =
    total_resume c.args.machine.now c.obey_orders.new.machine c.obey_orders.result c.word.ensures.store
    c.requires.returned
    (rw c.rows_left.ensures at c.obey_orders.ensures.ends) c.obey_orders.ensures.state
