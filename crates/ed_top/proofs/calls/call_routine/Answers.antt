use Rattle.ed_top.proofs.Kit.{◌∙◌, OfSource, run_outcome, some_outcome, call_text}
use Rattle.ed_top.proofs.Made.{made_replied, none_replied}
use Rattle.ed_top.proofs.calls.call_routine.Goals as goal

pub returns : goal.returns
returns c = made_replied c.args.settings _ _ _ (c.deref.ensures.value ∙ c.in_ok-source.ensures.is) c.run.ensures

pub returns-in_err-source : goal.returns-in_err-source
returns-in_err-source c =
    let s = c.args.settings in
    none_replied (OfSource s.size (run_outcome s) (call_text c.args.call)) c.from_residual.result
    c.from_residual.ensures
    (some_outcome s.size (run_outcome s) (call_text c.args.call))
