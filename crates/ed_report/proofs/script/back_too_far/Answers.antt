use Rattle.ed_report.proofs.Kit.{[], append_assoc, codes, ℕ, ◌++◌, ◌∷◌, ◌≡◌, decimal}
use Rattle.ed_report.specs.Notes.{too_far_line}
use Rattle.ed_report.proofs.Texts.{IfOk-told}
use Rattle.ed_report.proofs.script.back_too_far.Goals as goal

pieces : (line done : ℕ)
    → codes "line " ++ (decimal line ++ (codes ": C2 back too far, " ++ (decimal done ++ (codes " done" ++ 10 ∷ []))))
    ≡ too_far_line line done
pieces line done = simp append_assoc

pub returns : goal.returns
returns c = IfOk-told _ _ _ _ (pieces c.args.line c.args.done) c.bytes_of_text.ensures c.format.ensures.ok
