use Rattle.ed_tapes.proofs.Kit.{Size, IfOk, subst, ◌≡◌}
use Rattle.ed_tapes.proofs.Keeping.{first_size}
use Rattle.ed_tapes.proofs.running.run_rows.Goals as goal

pub returns-clause-size : goal.returns-clause-size
returns-clause-size c =
    subst (λ (z : Size). IfOk c.run_machine.result (λ left. left.machine.size ≡ z))
    (first_size c.args.settings.size c.args.rows.items c.in_ok-started.field-0 c.in_ok-started.ensures.is)
    c.run_machine.ensures.size
