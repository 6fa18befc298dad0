use Rattle.ed_initial.proofs.Kit.{rules, start_state, lit≤, ◌≡◌, initial_orders}
use Rattle.ed_initial.proofs.Started.{is_started}
use Rattle.ed_initial.proofs.starting.begin.Goals.{After-start}
use Rattle.ed_initial.proofs.starting.begin.Goals as goal

-- the state that Start leaves
state : (c : After-start) → c.start.new.self ≡ start_state initial_orders c.args.rows.items c.args.machine.now
state c = search rules

pub start-requires : goal.start-requires
start-requires c = rw c.orders.ensures (lit≤ tt)

pub returns-clause-state : goal.returns-clause-state
returns-clause-state c = state c

pub returns-clause-started : goal.returns-clause-started
returns-clause-started c = rw (state c) (is_started c.args.rows.items c.args.machine.now)

pub returns-clause-old_rows : goal.returns-clause-old_rows
returns-clause-old_rows c = c.start.ensures.old_rows
