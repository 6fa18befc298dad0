use Rattle.ed_report.proofs.Kit.{flat_map, [], append_assoc, codes, List, Ok, sym, ℕ, ◌++◌, ◌∙◌, ◌∷◌, ◌≡◌, decimal}
use Rattle.ed_report.proofs.Kit.{parameter_text}
use Rattle.ed_library.specs.Entries.{entry}
use Rattle.ed_report.proofs.Texts.{IfOk-told}
use Rattle.ed_report.proofs.library.routine_line.Goals as goal

pieces : (name text : List ℕ) (n places : ℕ) → name ≡ text → n ≡ places
    → name ++ (codes " " ++ decimal n) ≡ (text ++ codes " ") ++ decimal places
pieces name text n places e f = (λ i. e i ++ (codes " " ++ decimal (f i)))
    ∙ sym (append_assoc text (codes " ") (decimal places))

pub returns : goal.returns
returns c =
    let front = IfOk-told _ (Ok c.in_ok-line.line) _ _ (pieces _ _ _ _ c.name-name.ensures c.length-places.ensures.is)
    c.in_ok-line.ensures c.format.ensures.ok in
    let letters = flat_map parameter_text (entry c.args.routine).parameters in
    c.in_ok-push.ensures.items ∙ (λ i. (c.in_ok-push_parameters.ensures ∙ (λ j. front j ++ letters)) i ++ 10 ∷ [])
