use Rattle.ed_report.proofs.Kit.{append_assoc}
use Rattle.ed_report.proofs.Texts.{IfOk-told}
use Rattle.ed_report.proofs.entry.entry_text.Goals as goal

pub returns : goal.returns
returns c = IfOk-told _ _ _ _ (simp append_assoc) c.bytes_of_text.ensures c.format.ensures.ok
