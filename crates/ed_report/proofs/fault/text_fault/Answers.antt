use Rattle.ed_report.proofs.Kit.{Vec, Global, IfOk-weaker, NoMemory, [], ap, append_assoc, codes, IfOk, List, Result}
use Rattle.ed_report.proofs.Kit.{ℕ, ◌++◌, ◌∙◌, ◌∷◌, ◌≡◌, decimal}
use Rattle.ed_report.proofs.fault.text_fault.Goals as goal

-- the number of a byte, and then a note as one text
noted : (r : Result (Vec ℕ Global) NoMemory) (place : ℕ) (note : List ℕ)
    → IfOk r (λ bytes. bytes.items ≡ codes "byte " ++ decimal place ++ codes ": " ++ note ++ 10 ∷ [])
    → IfOk r (λ bytes. bytes.items ≡ codes "byte " ++ decimal place ++ (codes ": " ++ note) ++ 10 ∷ [])
noted r place note =
    IfOk-weaker r _ _
    (λ bytes is. is ∙ ap (λ t. t ++ 10 ∷ []) (append_assoc (codes "byte " ++ decimal place) (codes ": ") note))

pub returns-in-NoRow : goal.returns-in-NoRow
returns-in-NoRow c =
    rw c.in-NoRow.is (noted c.place_note.result c.in-NoRow.place (codes "T1 no row") c.place_note.ensures)

pub returns-in-OpenComment : goal.returns-in-OpenComment
returns-in-OpenComment c =
    let note = c.place_note-in-OpenComment in
    rw c.in-OpenComment.is (noted note.result c.in-OpenComment.place (codes "T2 open comment") note.ensures)
