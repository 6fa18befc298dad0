use Rattle.ed_report.proofs.Kit.{codes, decimal}
use Rattle.ed_report.proofs.Texts.{six_pieces, IfOk-told}
use Rattle.ed_report.proofs.text.location_after.Goals as goal

pub returns : goal.returns
returns c =
    let place = decimal c.args.place in
    let orders = decimal c.args.orders in
    let same = six_pieces c.args.name.now (codes " ") place (codes " after ") orders c.args.more.now in
    IfOk-told _ _ _ _ same c.bytes_of_text.ensures c.format.ensures.ok
