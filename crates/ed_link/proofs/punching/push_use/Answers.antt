use Rattle.ed_link.proofs.Kit.{Item, [], ap, List, refl, sym, ℕ, ◌++◌, ◌∙◌, ◌∷◌, one_more, map, entry, find}
use Rattle.ed_link.proofs.Kit.{length, length-map, lit≤, missing_row, routine_items, Some, table_item, ◌≤◌}
use Rattle.ed_library.specs.Routines.{routine_item}
use Rattle.ed_link.proofs.Steps.{all_given, unused, used}
use Rattle.ed_link.proofs.punching.push_use.Goals as goal

pub item-requires : goal.item-requires
item-requires c = rw (← c.length-length.ensures.is) c.loop-place-test.true

pub loop-place-init : goal.loop-place-init
loop-place-init c = refl

pub loop-place-preserved : goal.loop-place-preserved
loop-place-preserved c =
    let done = c.loop-place.items.items in
    let routine = c.in-Some.routine in
    one_more (map table_item) (entry routine).items c.loop-place.place missing_row done
    (routine_item routine c.loop-place.place ∷ []) _
    (rw (← c.length-length.ensures.is) c.loop-place-test.true) refl refl
    (c.in_ok-push.ensures ∙ ap (λ (i : Item). done ++ i ∷ []) c.item.ensures) c.loop-place.invariant

pub returns-clause-items : goal.returns-clause-items
returns-clause-items c =
    used c.args.symbols.now c.args.settings.now c.args.base (find c.args.routine.now) c.in-Some.routine
    c.args.items.now.items (sym (c.in-Some.ensures ∙ ap (λ (x : List ℕ). find x) c.text.ensures.is))
    (rw (← c.length-length.ensures.is) c.length-length.ensures.some)
    c.in_ok-push_presets.ensures c.in_ok-push_head.ensures
    (all_given (map table_item) (entry c.in-Some.routine).items c.loop-place.place c.loop-place.items.items
    (rw (← c.length-length.ensures.is) c.loop-place-test.false) refl c.loop-place.invariant)

pub returns-in_default-clause-items : goal.returns-in_default-clause-items
returns-in_default-clause-items c =
    unused c.args.symbols.now c.args.settings.now c.args.base (find c.args.routine.now) c.args.items.now.items
    (sym (c.in_default.ensures ∙ ap (λ (x : List ℕ). find x) c.text.ensures.is)) c.in_ok-push_presets.ensures

pub returns-clause-few : goal.returns-clause-few
returns-clause-few c =
    let few = c.length-length.ensures.few in
    let l : length (routine_items (Some c.in-Some.routine)) ≤ 128 =
    rw (length-map (entry c.in-Some.routine).items table_item) (rw (← c.length-length.ensures.is) few) in
    rw (← (c.in-Some.ensures ∙ ap (λ (x : List ℕ). find x) c.text.ensures.is)) l

pub returns-in_default-clause-few : goal.returns-in_default-clause-few
returns-in_default-clause-few c =
    let none = sym (c.in_default.ensures ∙ ap (λ (x : List ℕ). find x) c.text.ensures.is) in rw none (lit≤ tt)
