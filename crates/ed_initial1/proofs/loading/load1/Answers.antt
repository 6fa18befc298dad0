use Rattle.ed_initial1.proofs.Awaited.{waits}
use Rattle.ed_initial1.proofs.Whole.{whole_load, total_load}
use Rattle.ed_initial1.proofs.loading.load1.Goals as goal

pub returns-clause-loads : goal.returns-clause-loads
returns-clause-loads c =
    whole_load c.args.machine.now c.obey_orders.new.machine c.obey_orders.result c.word.ensures.store c.requires.started
    (rw c.rows_left.ensures at c.obey_orders.ensures.ends) c.obey_orders.ensures.state

pub returns-clause-total : goal.returns-clause-total
returns-clause-total c =
    total_load c.args.machine.now c.obey_orders.new.machine c.obey_orders.result c.word.ensures.store c.requires.started
    (rw c.rows_left.ensures at c.obey_orders.ensures.ends) c.obey_orders.ensures.state

pub returns-clause-waits : goal.returns-clause-waits
returns-clause-waits c =
    let store = c.word.ensures.store in
    waits c.args.machine.now (record { words = store.words_are; sandwich = store.digits_are }) c.requires.started
