use Rattle.ed_link.proofs.Kit.{ap, Bool, drop, List, ◌+◌, ◌||◌, list_any, overlaps, Extent}
use Rattle.ed_link.proofs.Loops.{at_item, at_end}
use Rattle.ed_link.proofs.faults.Extent.overlaps_any.Goals as goal

pub returns-then-overlaps : goal.returns-then-overlaps
returns-then-overlaps c =
    let l = c.loop-other in
    let any : List Extent → Bool = λ (xs : List Extent). list_any (λ other. overlaps c.args.self other) xs in
    at_item any c.args.others.now l.other-index _ _ c.loop-other-test.true l.invariant
    (ap (λ (b : Bool). b || any (drop (l.other-index + 1) c.args.others.now)) c.if-overlaps.ensures)

pub loop-other-preserved : goal.loop-other-preserved
loop-other-preserved c =
    let l = c.loop-other in
    let any : List Extent → Bool = λ (xs : List Extent). list_any (λ other. overlaps c.args.self other) xs in
    at_item any c.args.others.now l.other-index _ _ c.loop-other-test.true l.invariant
    (ap (λ (b : Bool). b || any (drop (l.other-index + 1) c.args.others.now)) c.if-overlaps.ensures)

pub returns : goal.returns
returns c =
    at_end (λ (xs : List Extent). list_any (λ other. overlaps c.args.self other) xs) c.args.others.now
    c.loop-other.other-index c.loop-other-test.false c.loop-other.invariant
