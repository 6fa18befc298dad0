use Rattle.ed_sources.proofs.Kit.{Text, ap, subst, sym, ℕ, ◌∙◌, ◌≡◌, ◌≤◌, demo_text}
use Rattle.ed_sources.specs.DemoRuns.{RunsAsDemo}
use Rattle.ed_sources.proofs.DemoRuns.{each_demo_runs}
use Rattle.ed_sources.proofs.DemoTexts.{whole_source}
use Rattle.ed_sources.proofs.demo.demo_source.Goals as goal

-- the source of `demo N` runs as it
demo_text_runs : (n : ℕ) (text : Text) → 1 ≤ n → n ≤ 112 → text ≡ demo_text n → RunsAsDemo n text
demo_text_runs n text some few is = subst (RunsAsDemo n) (sym is) (each_demo_runs n some few)

pub returns : goal.returns
returns c =
    let is =
    ap (λ v. v.items) c.into_bytes.ensures.value
    ∙ whole_source c.args.n c.in_ok-text.ensures c.in_ok-push_segments.ensures c.in_ok-push_str.ensures.bytes in
    record { is = is; runs = demo_text_runs _ _ c.requires.some c.requires.few is }
