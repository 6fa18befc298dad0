use Rattle.ed_streams.proofs.Kit.{Memory, gains_none, known, [], Err, refl, subst, State, exactly, of_rows, exactly_one}
use Rattle.ed_streams.proofs.Kit.{Replies-rejected, err_from_is_err_and, device, Carried, trace_outcome, traced_from}
use Rattle.ed_streams.proofs.Kit.{none_written}
use Rattle.ed_devices.proofs.Writing.{reply_carried, rows_carried}
use Rattle.ed_streams.proofs.traces.trace.Goals as goal

pub returns-in-Err : goal.returns-in-Err
returns-in-Err g c =
    let f = trace_outcome c.args.settings in
    reply_carried (of_rows (exactly f)) c.args.input.now (Err c.in-Err.rejection) _ _
    (Replies-rejected (exactly f) c.args.input.now _ (exactly_one f) c.in-Err.ensures.is) c.write.ensures

pub returns-in_err-machine : goal.returns-in_err-machine
returns-in_err-machine g c =
    let p = err_from_is_err_and c.from_residual.result c.from_residual.ensures.1 in
    let out = device g.K.Sink.held g.K.Sink.faults c.args.out.now c.args.out.now in
    rw (p.1, p.2) (rows_carried (trace_outcome c.args.settings) c.args.input.now _ out (Err Memory) c.in-Ok.ensures.is
    (refl, none_written out _ (gains_none out.before)))

pub returns : goal.returns
returns g c =
    let s = c.args.settings in
    let out = device g.K.Sink.held g.K.Sink.faults c.args.out.now c.trace_machine.new.out in
    rows_carried (trace_outcome s) c.args.input.now _ _ _ c.in-Ok.ensures.is
    (subst (λ (m : State). Carried (known (traced_from s m)) [] out c.trace_machine.result) c.in_ok-machine.ensures.is
    c.trace_machine.ensures)
