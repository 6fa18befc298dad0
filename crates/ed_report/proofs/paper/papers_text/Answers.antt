use Rattle.ed_report.proofs.Kit.{ap, List, ℕ, ◌++◌, ◌∙◌}
use Rattle.ed_report.proofs.Struck.{two_papers}
use Rattle.ed_report.proofs.paper.papers_text.Goals as goal

pub returns : goal.returns
returns c =
    let one : List ℕ = c.in_ok-bytes.bytes.items in
    c.in_ok-extend_from_slice.ensures.items ∙ ap (λ (more : List ℕ). one ++ more) c.deref.ensures.value
    ∙ two_papers one c.in_ok-more.more.items c.args.first.now c.args.second.now _ _
    c.new-printer.ensures c.in_ok-bytes.ensures.text c.in_ok-more.ensures.text
