use Rattle.ed_link.proofs.Kit.{arith}
use Rattle.std.proofs.lemmas.Grind.{common_steps}
use Rattle.ed_link.proofs.Lengths.{placed_push, put_push}
use Rattle.ed_link.proofs.words.put_text.Goals as goal

pub loop-code-preserved : goal.loop-code-preserved
loop-code-preserved c = grind (arith, common_steps, placed_push, put_push)
