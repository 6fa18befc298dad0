use Rattle.ed_routines.proofs.Kit.{HasWord}
use borrow.Author.Count.{below_more}
use Rattle.ed_routines.proofs.standing.has_image.Goals as goal

pub loop-place-preserved : goal.loop-place-preserved
loop-place-preserved c =
    below_more (HasWord c.args.routine.now c.args.parameters.now c.args.base c.args.machine.now) c.loop-place.place
    c.loop-place.invariant (c.has_word.ensures.0 c.if-not-has_word.false)
