use Rattle.ed_page.proofs.Kit.{common_steps, rules, get_or_read, arith}
use Rattle.ed_page.proofs.Copied.{written_more}
use Rattle.ed_page.proofs.writing.write_codes.Goals as goal

pub loop-place-preserved : goal.loop-place-preserved
loop-place-preserved c = search (rules, written_more, get_or_read)

pub returns : goal.returns
returns c = grind (arith, common_steps)
