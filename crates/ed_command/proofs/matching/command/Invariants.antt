use Rattle.ed_command.proofs.Kit.{drop}
use Rattle.ed_command.proofs.Adding.{IsWithout}
use Rattle.ed_command.proofs.matching.command.Given as goal

abbrev pub invariant-loop-name : goal.invariant-loop-name
invariant-loop-name l = IsWithout (drop l.name-index l.name-items) l.command
