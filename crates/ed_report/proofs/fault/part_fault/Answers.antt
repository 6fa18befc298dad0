use Rattle.ed_report.proofs.Kit.{Vec, Global, IfOk-weaker, NoMemory, [], append_assoc, codes, IfOk, List, Result, ℕ}
use Rattle.ed_report.proofs.Kit.{◌++◌, ◌∙◌, ◌∷◌, ◌≡◌, decimal}
use Rattle.ed_notation.specs.declared.cause.TapeCause.{TapeCause}
use Rattle.ed_report.specs.Notes.{cause_text, part_line}
use Rattle.ed_report.proofs.fault.part_fault.Goals as goal

pieces : (part row : ℕ) (rule : List ℕ)
    → (codes "part " ++ (decimal part ++ codes ", row")) ++ codes " " ++ decimal row ++ codes ": " ++ rule ++ 10 ∷ []
    ≡ codes "part " ++ decimal part ++ codes ", row " ++ decimal row ++ codes ": " ++ rule ++ 10 ∷ []
pieces part row rule = simp append_assoc

-- the note on a row of a part
noted : (r : Result (Vec ℕ Global) NoMemory) (part row : ℕ) (cause : TapeCause) {place rule : List ℕ}
    → place ≡ codes "part " ++ (decimal part ++ codes ", row") → rule ≡ cause_text cause
    → IfOk r (λ bytes. bytes.items ≡ place ++ codes " " ++ decimal row ++ codes ": " ++ rule ++ 10 ∷ [])
    → IfOk r (λ bytes. bytes.items ≡ part_line part row cause)
noted r part row cause place rule told =
    IfOk-weaker r _ _
    (λ bytes is. is ∙ (λ i. place i ++ codes " " ++ decimal row ++ codes ": " ++ rule i ++ 10 ∷ [])
    ∙ pieces part row (cause_text cause)) told

pub returns : goal.returns
returns c =
    noted c.place_note.result c.args.part c.args.row c.args.cause
    (c.deref.ensures ∙ c.in_ok-place.ensures.ok) c.cause_text.ensures c.place_note.ensures
