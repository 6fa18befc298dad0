use Rattle.ed_report.proofs.Kit.{[], codes, ◌∷◌, decimal}
use Rattle.ed_report.proofs.Texts.{six_pieces, IfOk-told}
use Rattle.ed_report.proofs.fault.place_note.Goals as goal

pub returns : goal.returns
returns c =
    let number = decimal c.args.number in
    let same = six_pieces c.args.kind.now (codes " ") number (codes ": ") c.args.note.now (10 ∷ []) in
    IfOk-told _ _ _ _ same c.bytes_of_text.ensures c.format.ensures.ok
