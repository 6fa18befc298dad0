use Rattle.ed_streams.proofs.Kit.{of_input, err_from_is_err_and, device, IsInParts}
use Rattle.ed_streams.proofs.InParts.{parts_broken, parts_stopped, parts_told, parts_untold}
use Rattle.ed_streams.proofs.reports.read_parts.Goals as goal

pub returns : goal.returns
returns g c codes is =
    let out = device g.K.Sink.held g.K.Sink.faults c.args.out.now c.run_parts.new.out in (
      c.end_status-status.ensures.low,
      parts_told c.args.settings codes is out
          c.in_ok-end.ensures.tells c.in_ok-note.ensures c.end_status-status.ensures.is,
      c.in_ok-end.ensures.faults,
    )

pub returns-in_err-note : goal.returns-in_err-note
returns-in_err-note g c codes is =
    let r = c.from_residual-in_err-note in
    let p = err_from_is_err_and r.result r.ensures.1 in
    let out = device g.K.Sink.held g.K.Sink.faults c.args.out.now c.run_parts.new.out in
    rw (p.1, p.2) (
      c.in_ok-end.ensures.faults,
      parts_untold c.args.settings codes is out c.in_ok-end.ensures.tells,
    )

pub returns-in_err-end : goal.returns-in_err-end
returns-in_err-end g c codes is =
    let r = c.from_residual in
    let p = err_from_is_err_and r.result r.ensures.1 in
    let fault = c.in_err-end.field-0.0 in
    let out = device g.K.Sink.held g.K.Sink.faults c.args.out.now c.run_parts.new.out in
    rw (p.1, p.2) (parts_stopped (of_input (λ _. IsInParts c.args.settings codes)) fault out
    c.in_err-end.ensures.faults
    (parts_broken c.args.settings codes is out fault c.run_parts.new.machine
    c.in_err-end.ensures.tells))
