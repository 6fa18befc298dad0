use Rattle.ed_sources.proofs.Kit.{Text, Call, ap, subst, sym, ◌∙◌, ◌≡◌, call_text}
use Rattle.ed_sources.specs.CallRuns.{RunsAsCall}
use Rattle.ed_sources.proofs.CallRuns.{each_call_runs}
use Rattle.ed_sources.proofs.calls.call_source.Goals as goal

-- the source of a call runs as the call
call_text_runs : (call : Call) (text : Text) → text ≡ call_text call → RunsAsCall call text
call_text_runs call text is = subst (RunsAsCall call) (sym is) (each_call_runs call)

pub returns : goal.returns
returns c =
    let is = ap (λ v. v.items) c.into_bytes.ensures.value ∙ c.in_ok-source_text.ensures in
    record { is = is; runs = call_text_runs _ _ is }
