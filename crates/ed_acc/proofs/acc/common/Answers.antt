use Rattle.std.proofs.Common.{◌∙◌, ap₂, bit_and, arith}
use Rattle.ed_acc.proofs.Common.{common_whole}
use Rattle.ed_acc.proofs.acc.common.Goals as goal

pub returns-clause-is : goal.returns-clause-is
returns-clause-is c = ap₂ bit_and c.value.ensures.is c.value-2.ensures.is
    ∙ common_whole 35 c.args.m c.args.x (omega arith)
