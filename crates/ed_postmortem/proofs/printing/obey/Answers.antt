use Rattle.ed_postmortem.proofs.Kit.{arith, refl, ◌-◌, ◌≤◌, IsPrinted}
use Rattle.ed_postmortem.proofs.Whole.{loads_so, orders_then, IsPrinted-run}
use Rattle.ed_postmortem.proofs.printing.obey.Goals.{After-orders_done}
use Rattle.ed_postmortem.proofs.printing.obey.Goals as goal

pub run-requires : goal.run-requires
run-requires c =
    let store = c.word.ensures.store in
    let range = c.requires.range in
    let loaded = loads_so store range refl c.requires.rows c.begin.ensures.state c.load.ensures.loads
    c.load.ensures.state in
    omega (arith, orders_then store range loaded, c.requires.orders)

printed_so : (c : After-orders_done)
    → IsPrinted c.args.machine.now c.args.paper.now c.args.first c.args.count
    (c.run.new.machine.orders - c.args.machine.now.orders) c.run.new.machine c.run.new.paper
    × (c.args.machine.now.orders ≤ c.run.new.machine.orders)
printed_so c =
    let store = c.word.ensures.store in
    let range = c.requires.range in
    let loaded = loads_so store range refl c.requires.rows c.begin.ensures.state c.load.ensures.loads
    c.load.ensures.state in
    IsPrinted-run store range loaded c.run.ensures.ends (omega arith) c.requires.room

pub overflow_sub-result : goal.overflow_sub-result
overflow_sub-result c = omega (arith, (printed_so c).1, c.orders_done-before.ensures, c.orders_done.ensures)

pub returns : goal.returns
returns c = rw (c.orders_done.ensures, c.orders_done-before.ensures) (printed_so c).0
