use Rattle.ed_command.proofs.Kit.{common_steps, arith, sym}
use Rattle.ed_command.proofs.Arguments.{no_size}
use Rattle.ed_command.proofs.options.Options.size.Goals as goal

pub returns-in_default-text : goal.returns-in_default-text
returns-in_default-text c =
    sym (no_size _ _ c.in-len1.len_at_least c.in-len1.len_below c.in_default-text.not-text
    c.in_default-text.not-text-2)

pub returns-in-empty : goal.returns-in-empty
returns-in-empty c = grind (arith, common_steps)

pub returns-in-text : goal.returns-in-text
returns-in-text c = grind (arith, common_steps)

pub returns-in-text-2 : goal.returns-in-text-2
returns-in-text-2 c = grind (arith, common_steps)

pub returns-in_default : goal.returns-in_default
returns-in_default c = grind (arith, common_steps)
