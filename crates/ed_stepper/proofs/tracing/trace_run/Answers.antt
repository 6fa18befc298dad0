use Rattle.ed_stepper.proofs.Kit.{subst, ◌∙◌, err_from_is_err_and, Gains, trace_to}
use Rattle.ed_stepper.proofs.Wholes.{all_written, EndsAfter-run_end, full_broke, full_part, last_failed}
use Rattle.ed_stepper.proofs.tracing.trace_run.Goals as goal

pub returns-clause-trace : goal.returns-clause-trace
returns-clause-trace g c =
    let t = c.in_ok-ending.ensures.trace in
    let run = EndsAfter-run_end c.args.limit c.args.resumes c.args.machine.now t.ends in (
      run.1.0,
      t.state_is ∙ run.1.1,
      subst (λ n. Gains (g.K.Sink.held c.args.out.now) (g.K.Sink.held c.end_line.new.out)
          (trace_to n c.args.machine.now))
          run.0 (all_written _ _ _ t.lines c.in_ok-end_line.ensures.ends),
    )

pub returns-in_err-end_line-clause-trace : goal.returns-in_err-end_line-clause-trace
returns-in_err-end_line-clause-trace g c =
    let r = c.from_residual-in_err-end_line in
    let p = err_from_is_err_and r.result r.ensures.1 in
    let t = c.in_ok-ending.ensures.trace in
    let run = EndsAfter-run_end c.args.limit c.args.resumes c.args.machine.now t.ends in
    rw (p.1, p.2) (last_failed _ t.lines run.0 t.state_is c.in_err-end_line.ensures.ends)

pub returns-in_err-ending-clause-trace : goal.returns-in_err-ending-clause-trace
returns-in_err-ending-clause-trace g c =
    let r = c.from_residual-in_err-ending in
    let p = err_from_is_err_and r.result r.ensures.1 in
    rw (p.1, p.2) (full_part c.in_err-ending.ensures.trace, full_broke c.in_err-ending.ensures.trace)
