use Rattle.ed_link.proofs.Kit.{append-nil, Global, Vec, [], ap, drop, List, refl, sym, ◌++◌, ◌+◌, ◌∙◌, ◌∷◌, ◌≡◌}
use Rattle.ed_link.proofs.Kit.{one_more, label_of, labels}
use Rattle.ed_link.specs.declared.linked.LabelPlace.{LabelPlace}
use Rattle.ed_link.proofs.Steps.{all_given, label_of-shown, label_of-hidden, hidden_far}
use Rattle.ed_link.proofs.linking.labels_of.Goals.{then-not-is_local+then-definition-le1023+in_ok-push}
use Rattle.ed_link.proofs.linking.labels_of.Goals.{else-not-is_local}
use Rattle.ed_link.proofs.linking.labels_of.Goals.{else-not-is_local-via-then-not-is_local+else-definition-le1023}
use Rattle.ed_link.proofs.linking.labels_of.Goals.{else-not-is_local-via-else-not-is_local}
use Rattle.ed_link.proofs.linking.labels_of.Goals as goal

pub loop-definition-preserved : goal.loop-definition-preserved
loop-definition-preserved c =
    let done = c.loop-definition.labels.items in
    let i = c.loop-definition.definition-index in
    let h = c.definition-item.result in
    let later = labels (drop (i + 1) c.args.symbols.now) in
    let with_part = λ (part : List LabelPlace) (is : label_of h ≡ part)
    (same : c.if-not-is_local.labels.items ≡ done ++ part).
    one_more labels c.args.symbols.now i h done part later c.loop-definition-test.true c.definition-item.is
    (ap (λ (xs : List LabelPlace). xs ++ later) is) same c.loop-definition.invariant in
    elim c.if-not-is_local.branch [
      | then-not-is_local+then-definition-le1023+in_ok-push w ↦ with_part
          (record { name = h.name; place = h.place } ∷ [])
          (label_of-shown h (sym c.is_local.ensures ∙ w.if-not-is_local.true) w.if-definition-le1023.true)
          (ap (λ (v : Vec LabelPlace Global). v.items) w.labels-is ∙ w.in_ok-push.ensures.items)
      | else-not-is_local w ↦ with_part []
          (elim w.else-not-is_local.branch [
            | else-not-is_local-via-then-not-is_local+else-definition-le1023 v ↦ hidden_far h
                (sym c.is_local.ensures ∙ v.if-not-is_local.true) v.if-definition-le1023.false
            | else-not-is_local-via-else-not-is_local v ↦ label_of-hidden h
                (sym c.is_local.ensures ∙ v.if-not-is_local.false)
          ])
          (ap (λ (v : Vec LabelPlace Global). v.items) w.labels-is ∙ sym (append-nil done))
    ]

pub returns : goal.returns
returns c =
    all_given labels c.args.symbols.now c.loop-definition.definition-index c.loop-definition.labels.items
    c.loop-definition-test.false refl c.loop-definition.invariant
