use Rattle.ed_notation.proofs.Kit.{false, List, refl, ℕ, ◌++◌, ap, ◌∙◌, rows_of, canonical, canonicals, line_from}
use Rattle.ed_notation.proofs.Kit.{text_of, Item}
use Rattle.ed_notation.proofs.Canonical.{are_written, IsSpelling-canonicals}
use Rattle.ed_notation.proofs.Parts.{one_more}
use Rattle.ed_notation.proofs.Texts.{text_end, text_reads}
use Rattle.ed_notation.proofs.spelling.text_of_items.Goals as goal

pub returns-clause-reads : goal.returns-clause-reads
returns-clause-reads c =
    rw (text_end _ _ _ c.loop-item-test.false c.loop-item.invariant) (text_reads _ (are_written _ c.requires))

pub returns-clause-spelling : goal.returns-clause-spelling
returns-clause-spelling c = IsSpelling-canonicals _ c.requires

pub returns-in_err-push_item-clause-spelling : goal.returns-in_err-push_item-clause-spelling
returns-in_err-push_item-clause-spelling c = IsSpelling-canonicals _ c.requires

pub returns-in_err-push_line-clause-spelling : goal.returns-in_err-push_line-clause-spelling
returns-in_err-push_line-clause-spelling c = IsSpelling-canonicals _ c.requires

pub loop-item-preserved : goal.loop-item-preserved
loop-item-preserved c =
    let i = c.item-item.result in
    let done = c.loop-item.text.items in
    let rows = rows_of (canonical i) in
    one_more (λ (is : List Item). text_of (canonicals is)) c.args.items.now c.loop-item.item-index i
    done (line_from false rows) _ c.loop-item-test.true c.item-item.is refl
    (c.in_ok-push_line.ensures ∙ ap (λ (xs : List ℕ). done ++ line_from false xs)
    (c.deref.ensures.value ∙ c.in_ok-push_item.ensures ∙ ap (λ (xs : List ℕ). xs ++ rows) c.new-rows.ensures.items))
    c.loop-item.invariant

pub returns-clause-text : goal.returns-clause-text
returns-clause-text c = text_end _ _ _ c.loop-item-test.false c.loop-item.invariant
