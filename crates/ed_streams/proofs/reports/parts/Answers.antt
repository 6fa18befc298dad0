use Rattle.ed_streams.proofs.Kit.{Memory, gains_none, Err, refl, of_rows, Replies-rejected, err_from_is_err_and, device}
use Rattle.ed_streams.proofs.Kit.{IsInParts}
use Rattle.ed_streams.proofs.InParts.{parts_none, parts_one}
use Rattle.ed_devices.proofs.Writing.{reply_carried, rows_carried_by}
use Rattle.ed_streams.proofs.reports.parts.Goals as goal

pub returns-in-Err : goal.returns-in-Err
returns-in-Err g c =
    let answers = IsInParts c.args.settings in
    reply_carried (of_rows answers) c.args.input.now (Err c.in-Err.rejection) _ _
    (Replies-rejected answers c.args.input.now _ (parts_one c.args.settings) c.in-Err.ensures.is) c.write.ensures

pub returns-in_err-machine : goal.returns-in_err-machine
returns-in_err-machine g c =
    let p = err_from_is_err_and c.from_residual.result c.from_residual.ensures.1 in
    let s = c.args.settings in
    let out = device g.K.Sink.held g.K.Sink.faults c.args.out.now c.args.out.now in
    rw (p.1, p.2) (rows_carried_by (IsInParts s) c.args.input.now _ out (Err Memory) c.in-Ok.ensures.is
    (refl, parts_none s c.in-Ok.rows.items out (gains_none out.before)))

pub returns : goal.returns
returns g c =
    rows_carried_by (IsInParts c.args.settings) c.args.input.now _ _ _ c.in-Ok.ensures.is
    (c.read_parts.ensures c.in-Ok.rows.items c.in_ok-machine.ensures.is)
