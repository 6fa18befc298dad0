use Rattle.ed_tapes.proofs.Kit.{arith}
use Rattle.ed_tapes.proofs.Keeping.{ran_orders, ran_size}
use Rattle.ed_tapes.proofs.running.run_machine.Goals as goal

pub returns-clause-size : goal.returns-clause-size
returns-clause-size c = ran_size _ _ _ c.args.machine _ c.run-ending.ensures.run_end.state_is

pub returns-clause-orders : goal.returns-clause-orders
returns-clause-orders c =
    let few = ran_orders _ _ _ c.args.machine _ c.run-ending.ensures.run_end.state_is in
    omega (arith, few, c.from.ensures, c.orders_done.ensures, c.requires)
