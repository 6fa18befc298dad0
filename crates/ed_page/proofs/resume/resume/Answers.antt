use Rattle.ed_page.proofs.Kit.{rules, IsRunResult, FinishedRun, refl, subst, ℕ, State, run_end}
use Rattle.ed_page.proofs.GoneOn.{gone_of}
use Rattle.ed_page.proofs.resume.resume.Goals as goal

pub returns-clause-gone : goal.returns-clause-gone
returns-clause-gone c first begins k pictures =
    let gone : FinishedRun =
    record { ending = c.run-ending.result; machine = c.run-ending.new.machine; paper = c.run-ending.new.paper } in
    let machine = c.in_ok-machine.machine in
    subst (λ (m : State). IsRunResult (run_end c.args.orders c.args.resumes c.args.room m) gone)
    (c.in_ok-machine.ensures first begins k pictures)
    (subst (λ (n : ℕ). IsRunResult (run_end n c.args.resumes c.args.room machine) gone) c.from.ensures
    (gone_of c.from.result c.args.resumes c.args.room machine c.in_ok-paper.paper c.run-ending.new.paper gone
    c.in_ok-paper.ensures c.run-ending.ensures.run_end refl))

pub snapshot-requires : goal.snapshot-requires
snapshot-requires c = search rules
