use Rattle.ed_link.proofs.Kit.{[], ap, List, refl, sym, true, ℕ, ◌++◌, ◌∙◌, ◌∷◌, byte_of, line_from}
use Rattle.ed_link.proofs.Kit.{one_more}
use Rattle.std.proofs.lemmas.List.{at_drop_all}
use Rattle.ed_link.proofs.Texts.{one_spells, last_spells, no_text, some_text}
use Rattle.ed_link.proofs.linked.push_after.Goals as goal

pub loop-row-preserved : goal.loop-row-preserved
loop-row-preserved c =
    let done = c.loop-row.text.items in
    let row = c.row-item.result in (
      one_more (line_from true) c.args.rows.now c.loop-row.row-index row done (byte_of row true ∷ []) _
          c.loop-row-test.true c.row-item.is refl
          (c.in_ok-push.ensures.items ∙ ap (λ (b : ℕ). done ++ b ∷ []) c.byte_of.ensures.is) c.loop-row.invariant.0,
      λ s. c.loop-row.invariant.1 (one_spells c.args.rows.now c.loop-row.row-index c.loop-row-test.true c.row-item.is
          c.byte_of.ensures.is c.byte_of.ensures.back s),
    )

pub returns-clause-is : goal.returns-clause-is
returns-clause-is c =
    c.in_ok-push-2.ensures.items
    ∙ ap (λ (xs : List ℕ). c.loop-row.text.items ++ xs)
    (sym (at_drop_all (line_from true) c.args.rows.now c.loop-row.row-index c.loop-row-test.false))
    ∙ c.loop-row.invariant.0
    ∙ ap (λ (xs : List ℕ). c.args.text.now.items ++ xs) (sym (some_text c.args.rows.now c.if-is_empty.ensures))

pub returns-clause-spells : goal.returns-clause-spells
returns-clause-spells c =
    rw (some_text c.args.rows.now c.if-is_empty.ensures)
    (c.loop-row.invariant.1 (last_spells c.args.rows.now c.loop-row.row-index c.loop-row-test.false))

pub returns-then-is_empty-clause-spells : goal.returns-then-is_empty-clause-spells
returns-then-is_empty-clause-spells c = no_text c.args.rows.now c.if-is_empty.ensures
