use Rattle.ed_page.proofs.Kit.{common_steps, arith}
use Rattle.ed_page.proofs.Copied.{pushed_all}
use Rattle.ed_page.proofs.items.push_numbers.Goals as goal

pub returns : goal.returns
returns c = pushed_all _ _ _ _ c.loop-number-test.false c.loop-number.invariant

pub loop-number-preserved : goal.loop-number-preserved
loop-number-preserved c = grind (arith, common_steps)
