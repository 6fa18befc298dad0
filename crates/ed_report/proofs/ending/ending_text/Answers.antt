use Rattle.ed_report.proofs.Kit.{[], ap, ◌∷◌}
use Rattle.ed_report.proofs.Texts.{IfOk-named}
use Rattle.ed_report.proofs.ending.ending_text.Goals.{in-Limit, in-NoTape, in-PaperFull, in-Stopped}
use Rattle.ed_report.proofs.ending.ending_text.Goals as goal

pub returns : goal.returns
returns c =
    let line = c.location_after.ensures in
    let s = c.args.machine.now in
    let counter = c.counter.ensures.is in
    let orders = c.orders_done.ensures in
    elim c.match-ending.branch [
      | in-Stopped w ↦ rw w.in-Stopped.is (IfOk-named _ s (10 ∷ []) line (ap (λ n. n.now) w.name-is) counter orders)
      | in-Limit w ↦ rw w.in-Limit.is (IfOk-named _ s (10 ∷ []) line (ap (λ n. n.now) w.name-is) counter orders)
      | in-NoTape w ↦ rw w.in-NoTape.is (IfOk-named _ s (10 ∷ []) line (ap (λ n. n.now) w.name-is) counter orders)
      | in-PaperFull w ↦ rw w.in-PaperFull.is (IfOk-named _ s (10 ∷ []) line (ap (λ n. n.now) w.name-is) counter orders)
    ]
