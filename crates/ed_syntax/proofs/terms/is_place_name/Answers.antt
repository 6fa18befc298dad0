use Rattle.ed_syntax.proofs.Kit.{arith, common_steps}
use Rattle.ed_syntax.proofs.terms.is_place_name.Goals as goal

pub returns : goal.returns
returns c = grind (arith, common_steps)

pub loop-byte-preserved : goal.loop-byte-preserved
loop-byte-preserved c = grind (arith, common_steps)

pub returns-then-not-is_run_byte : goal.returns-then-not-is_run_byte
returns-then-not-is_run_byte c = grind (arith, common_steps)
