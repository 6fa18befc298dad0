use Rattle.ed_page.proofs.Kit.{common_steps, arith, refl}
use Rattle.ed_page.proofs.Copied.{copied_all}
use Rattle.ed_page.proofs.snapshot.codes_of.Goals as goal

pub loop-number-init : goal.loop-number-init
loop-number-init c = rw c.new-codes.ensures.items refl

pub loop-number-preserved : goal.loop-number-preserved
loop-number-preserved c = grind (arith, common_steps)

pub returns : goal.returns
returns c = copied_all _ _ _ c.loop-number-test.false c.loop-number.invariant
