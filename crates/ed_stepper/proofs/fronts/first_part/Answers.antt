use Rattle.ed_stepper.proofs.Kit.{◌∙◌}
use Rattle.ed_stepper.proofs.Heads.{no_part, part_taken, space_skipped}
use Rattle.ed_stepper.proofs.fronts.first_part.Goals as goal

pub loop-rest-preserved : goal.loop-rest-preserved
loop-rest-preserved c =
    c.loop-rest.invariant ∙ space_skipped c.loop-rest.rest.now c.in-len1-up.len_at_least c.if-first-ne32.false

pub returns-then-first-ne32 : goal.returns-then-first-ne32
returns-then-first-ne32 c =
    rw (c.split_at.ensures.front, c.split_at.ensures.back) (c.loop-rest.invariant
    ∙ part_taken c.loop-rest.rest.now _ c.in-len1-up.len_at_least c.if-first-ne32.true c.first_byte.ensures.is)

pub returns : goal.returns
returns c = c.loop-rest.invariant ∙ no_part c.loop-rest.rest.now c.in_default.len_below
