use Rattle.ed_stepper.proofs.Kit.{append_assoc, IfOk-told}
use Rattle.ed_stepper.proofs.lines.number_line.Goals as goal

pub returns : goal.returns
returns c = IfOk-told _ _ _ _ (simp append_assoc) c.bytes_of_text.ensures c.format.ensures.ok
