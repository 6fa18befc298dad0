use Rattle.ed_top.proofs.Kit.{IfOk, rules, subst, ◌≡◌, Gives, play, Stand, played_outcome}
use Rattle.ed_top.specs.Scripts.{stand_on}
use Rattle.ed_top.proofs.step.step_rows.Goals as goal

pub returns : goal.returns
returns c = λ commands is.
    let stands : c.in_ok-session.session ≡ stand_on c.args.settings c.args.rows.items = search rules in
    subst
    (λ (t : Stand). IfOk c.script_reply.result (λ reply. Gives reply (played_outcome (play 1 commands t))))
    stands (c.script_reply.ensures commands is)
