use Rattle.ed_syntax.proofs.Kit.{rules}
use Rattle.ed_syntax.proofs.Lines.{from_return, from_other}
use Rattle.ed_syntax.proofs.source.without_return.Goals as goal

pub returns-then-last-eq13 : goal.returns-then-last-eq13
returns-then-last-eq13 c = search (rules, from_return)

pub returns-else-last-eq13 : goal.returns-else-last-eq13
returns-else-last-eq13 c = search (rules, from_other)
