use Rattle.ed_notation.proofs.Kit.{[], append_assoc, Bool, List, ℕ, ◌++◌, ◌∷◌, ◌≡◌, ap, sym, ◌∙◌, mark_rows, digits_of}
use Rattle.std.proofs.Common.{append-nil}
use Rattle.ed_notation.proofs.Parts.{digits_are, append-joined}
use Rattle.ed_notation.proofs.spelling.push_item.Goals.{then-item+in_ok-push-2, else-item}
use Rattle.ed_notation.proofs.spelling.push_item.Goals as goal

pub returns : goal.returns
returns c =
    let i = c.args.item.now in
    let mark = mark_rows i.mark in
    let digits = digits_of i.number in
    let r = c.args.rows.now.items in
    let r1 = c.push.new.self.items in
    let r2 = c.push_digits.new.rows.items in
    let with_mark = λ (same : c.if-item.rows.items ≡ r2 ++ mark).
    append-joined r (i.function ∷ []) (digits ++ (mark ++ i.end ∷ [])) c.in_ok-push.ensures.items
    (append-joined r1 digits (mark ++ i.end ∷ [])
    (c.in_ok-push_digits.ensures ∙ ap (λ (ds : List ℕ). r1 ++ ds) (digits_are i.number))
    (append-joined r2 mark (i.end ∷ []) same c.in_ok-push-3.ensures.items))
    ∙ ap (λ (xs : List ℕ). r ++ i.function ∷ xs) (sym (append_assoc digits mark _)) in
    elim c.if-item.branch [
      | then-item+in_ok-push-2 w ↦ with_mark (ap (λ v. v.items) w.rows-is ∙ w.in_ok-push-2.ensures.items
          ∙ ap (λ (b : Bool). r2 ++ mark_rows b) (sym w.if-item.true))
      | else-item w ↦ with_mark
          (ap (λ v. v.items) w.rows-is ∙ sym (append-nil r2)
          ∙ ap (λ (b : Bool). r2 ++ mark_rows b) (sym w.if-item.false))
    ]
