use Rattle.ed_streams.proofs.Kit.{err_from_is_err_and, device}
use Rattle.ed_streams.proofs.Traced.{trace_stopped, trace_untold}
use Rattle.ed_streams.proofs.traces.trace_machine.Goals as goal

pub returns-in_err-ending : goal.returns-in_err-ending
returns-in_err-ending g c =
    let p = err_from_is_err_and c.from_residual.result c.from_residual.ensures.1 in
    let out = device g.K.Sink.held g.K.Sink.faults c.args.out.now c.trace_run.new.out in
    let told = c.in_err-ending.ensures in
    rw (p.1, p.2) (trace_stopped c.args.settings c.args.machine.now out c.from-limit.result c.from-limit.ensures
    c.in_err-ending.field-0.0 c.trace_run.new.machine told.trace told.faults)

pub returns-in_err-note : goal.returns-in_err-note
returns-in_err-note g c =
    let r = c.from_residual-in_err-note in
    let p = err_from_is_err_and r.result r.ensures.1 in
    let out = device g.K.Sink.held g.K.Sink.faults c.args.out.now c.trace_run.new.out in
    let told = c.in_ok-ending.ensures in
    rw (p.1, p.2) (
      told.faults,
      trace_untold c.args.settings c.args.machine.now out c.from-limit.result c.from-limit.ensures
          c.in_ok-ending.ending c.trace_run.new.machine told.trace,
    )
