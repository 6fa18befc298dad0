use Rattle.ed_page.proofs.Kit.{rules, Size, IsWindowOf, ap, subst, sym, ◌∙◌, ◌≡◌, State, size_shown}
use Rattle.ed_page.proofs.OnTheWay.{IsFirst-begun, way_size}
use Rattle.ed_page.proofs.postmortem.printed_paper.Goals as goal

pub window_printed-requires-clause-window : goal.window_printed-requires-clause-window
window_printed-requires-clause-window c =
    let p = c.requires.picture in
    let size : c.in_ok-machine.machine.size ≡ size_shown c.args.small =
    ap (λ (s : State). s.size) (c.in_ok-machine.ensures p.first p.begins p.way.orders p.way.pictured)
    ∙ way_size (IsFirst-begun p) p.way.orders in
    subst (λ (z : Size). IsWindowOf z c.args.window) (sym size) c.requires.window

pub snapshot-requires : goal.snapshot-requires
snapshot-requires c = search rules
