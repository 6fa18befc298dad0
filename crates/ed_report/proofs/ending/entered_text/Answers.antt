use Rattle.ed_report.proofs.Kit.{◌++◌, ◌∙◌}
use Rattle.ed_report.proofs.ending.entered_text.Goals as goal

pub returns : goal.returns
returns c =
    let front = c.in_ok-text.ensures in
    let line = c.deref.ensures.value ∙ c.in_ok-line.ensures in
    c.in_ok-extend_from_slice.ensures.items ∙ (λ i. front i ++ line i)
