use Rattle.ed_link.proofs.Kit.{item_rows, Item, all_rows_are, ap, arith, length, length-append, List, sym, ◌++◌, ◌∙◌}
use Rattle.ed_link.proofs.Kit.{◌≡◌, flat_map}
use Rattle.ed_link.proofs.Spellable.{are_spellable}
use Rattle.ed_link.proofs.linked.Linked.rows.Goals as goal

pub rows_of_items-requires : goal.rows_of_items-requires
rows_of_items-requires c =
    let linked = c.args.self.now in rw c.deref.ensures.value (are_spellable linked.items.items linked.spellable)

-- the rows of the items, and those after them
whole : (c : goal.In_ok-extend_from_slice) → c.extend_from_slice.new.self.items
    ≡ flat_map item_rows c.args.self.now.items.items ++ c.args.self.now.after.items
whole c =
    let items = c.in_ok-rows.ensures.rows
    ∙ sym (all_rows_are c.deref.result.now) ∙ ap (λ (is : List Item). flat_map item_rows is) c.deref.ensures.value in
    c.in_ok-extend_from_slice.ensures.items ∙ (λ i. items i ++ c.deref-2.ensures.value i)

pub returns-clause-is : goal.returns-clause-is
returns-clause-is c = whole c

pub returns-clause-few : goal.returns-clause-few
returns-clause-few c =
    let linked = c.args.self.now in
    let count = ap length (whole c) ∙ length-append _ linked.after.items in
    omega (arith, count, linked.few)
