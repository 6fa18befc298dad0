use Rattle.ed_machine.proofs.Names.{arith}
use Rattle.ed_machine.proofs.Steps.{next_state, no_step}
use Rattle.ed_machine.proofs.machine.Machine.obey_next.Goals as goal

pub loop-done-init : goal.loop-done-init
loop-done-init c = record { state = no_step c.args.self.now; orders = omega arith }

pub loop-done-preserved : goal.loop-done-preserved
loop-done-preserved c =
    let i = c.loop-done.invariant in
    record {
      state = next_state c.loop-done.done _ i.state c.step.ensures.state;
      orders = omega (arith, i.orders, c.step.ensures.count);
    }
