use Rattle.ed_checker.proofs.Kit.{rules, sym, ◌-◌, ◌∙◌, ◌≤◌, ChecksOne}
use Rattle.ed_checker.specs.declared.checking.Checking.TheVariants.{Blocked as IsBlocked}
use Rattle.ed_checker.proofs.Follow.{checker_law}
use Rattle.ed_checker.proofs.Whole.{IsTurn, when_blocked, when_done}
use Rattle.ed_checker.proofs.checking.check_one.Goals as goal

pub run-requires : goal.run-requires
run-requires c = search rules

-- the run is a turn of the routine
turn_blocked : (c : goal.In-NoOrder) → IsTurn c.args.base c.turn_orders-orders.result c.args.machine.now
    c.run.new.machine c.args.paper.now c.run.new.paper c.run.result
turn_blocked c = search rules

blocked : (c : goal.In-NoOrder) → (17 ≤ c.turn_orders-orders.result)
    × ChecksOne c.args.base c.args.machine.now c.run.new.machine c.args.paper.now c.run.new.paper
    (IsBlocked (c.turn_orders-orders.result - 17))
blocked c = when_blocked (turn_blocked c) c.in-NoOrder.is

pub overflow_sub-result : goal.overflow_sub-result
overflow_sub-result c = (blocked c).0

pub returns-in-NoOrder : goal.returns-in-NoOrder
returns-in-NoOrder c = record { turn = (blocked c).1; law = checker_law }

pub returns-then-stops : goal.returns-then-stops
returns-then-stops c =
    let turn : IsTurn c.args.base c.turn_orders-orders.result c.args.machine.now c.run.new.machine
    c.args.paper.now c.run.new.paper c.run.result = search rules in
    record {
      turn = when_done turn c.in_default.not-NoOrder c.in_default.not-NoTape
          (sym c.is_stop-stops.ensures ∙ c.if-stops.true);
      law = checker_law;
    }

pub returns-else-stops : goal.returns-else-stops
returns-else-stops c =
    let turn : IsTurn c.args.base c.turn_orders-orders.result c.args.machine.now c.run.new.machine
    c.args.paper.now c.run.new.paper c.run.result = search rules in
    record {
      turn = when_done turn c.in_default.not-NoOrder c.in_default.not-NoTape
          (sym c.is_stop-stops.ensures ∙ c.if-stops.false);
      law = checker_law;
    }
