use Rattle.ed_command.proofs.Kit.{refl, sym, ◌∙◌}
use Rattle.ed_command.proofs.Arguments.{at_line, no_line}
use Rattle.ed_command.proofs.lines.line_named.Goals as goal

pub loop-line-init : goal.loop-line-init
loop-line-init c = refl

pub returns-then-eq : goal.returns-then-eq
returns-then-eq c =
    at_line _ _ _ c.args.word.now _ c.loop-line-test.true c.loop-line.invariant (sym c.eq.ensures ∙ c.if-eq.true)

pub loop-line-preserved : goal.loop-line-preserved
loop-line-preserved c =
    at_line _ _ _ c.args.word.now _ c.loop-line-test.true c.loop-line.invariant (sym c.eq.ensures ∙ c.if-eq.false)

pub returns : goal.returns
returns c = no_line _ _ c.args.word.now c.loop-line-test.false c.loop-line.invariant
