use Rattle.ed_link.proofs.Kit.{ap, Bool, drop, false, true, ◌+◌, ◌∙◌, ◌≡◌, Line, rules, ◌||◌, any_enter, is_enter}
use Rattle.ed_link.proofs.Loops.{at_item, at_end}
use Rattle.ed_link.proofs.faults.any_enter.Goals as goal

pub returns-in-Some-Enter : goal.returns-in-Some-Enter
returns-in-Some-Enter c =
    let l = c.loop-line in
    let enters : true ≡ is_enter c.line-item.result.statement = search rules in
    at_item any_enter c.args.lines.now l.line-index c.line-item.result _ c.loop-line-test.true l.invariant
    (ap (λ (b : Bool). b || any_enter (drop (l.line-index + 1) c.args.lines.now))
    (enters ∙ ap (λ (x : Line). is_enter x.statement) c.line-item.is))

pub loop-line-preserved : goal.loop-line-preserved
loop-line-preserved c =
    let l = c.loop-line in
    let other : false ≡ is_enter c.line-item.result.statement = search rules in
    at_item any_enter c.args.lines.now l.line-index c.line-item.result _ c.loop-line-test.true l.invariant
    (ap (λ (b : Bool). b || any_enter (drop (l.line-index + 1) c.args.lines.now))
    (other ∙ ap (λ (x : Line). is_enter x.statement) c.line-item.is))

pub returns : goal.returns
returns c = at_end any_enter c.args.lines.now c.loop-line.line-index c.loop-line-test.false c.loop-line.invariant
