use Rattle.ed_link.proofs.Kit.{reading, rows, item_rows, all_rows_are, ap, List, sym, ℕ, ◌++◌, ◌∙◌, flat_map}
use Rattle.ed_link.proofs.Spellable.{are_spellable}
use Rattle.ed_link.proofs.Texts.{both_read}
use Rattle.ed_link.proofs.linked.Linked.text.Goals as goal

pub text_of_items-requires : goal.text_of_items-requires
text_of_items-requires c =
    let linked = c.args.self.now in rw c.deref.ensures.value (are_spellable linked.items.items linked.spellable)

pub returns-clause-reads : goal.returns-clause-reads
returns-clause-reads c =
    let items = c.deref.result.now in
    let after = c.deref-2.result.now in
    ap reading c.in_ok-push_after.ensures.is ∙ both_read c.in_ok-text.text.items _ _ after
    (c.in_ok-text.ensures.reads ∙ ap (λ (rs : List ℕ). rows rs) (sym (all_rows_are items)))
    c.in_ok-push_after.ensures.spells
    ∙ (λ i. rows (flat_map item_rows (c.deref.ensures.value i) ++ c.deref-2.ensures.value i))
