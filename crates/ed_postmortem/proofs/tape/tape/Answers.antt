use Rattle.ed_postmortem.proofs.Kit.{codes, Item, canonicals, is_spellable, [], ap, false, List, refl, ℕ, ◌++◌, ◌∙◌}
use Rattle.ed_postmortem.proofs.Kit.{◌∷◌, ◌≡◌, spelled_rows, count_item, orders, rows_of_text, tape_rows}
use Rattle.ed_postmortem.proofs.Entry.{parameter_spellable}
use Rattle.ed_postmortem.proofs.tape.tape.Goals as goal

-- the item T 45 K
abbrev place_at_45 : ℕ → Item
place_at_45 t = record { function = t; number = 45; mark = false; end = 14 }

-- the three items and the orders are the tape
whole : {t first count : ℕ} {head a b : Item} {rows : List ℕ} → t ≡ 5 → head ≡ place_at_45 t → a ≡ count_item first
    → b ≡ count_item count → rows ≡ spelled_rows (canonicals (head ∷ a ∷ b ∷ []))
    → rows ++ rows_of_text (codes "T56KGK" ++ (orders ++ codes "E56KPF")) ≡ tape_rows first count
whole t_is head_is a_is b_is rows_are = rw (rows_are, head_is, a_is, b_is, t_is) refl

pub rows_of_items-requires : goal.rows_of_items-requires
rows_of_items-requires c =
    let t = rw c.unwrap.ensures at c.new.ensures.some in (
      ap is_spellable c.item-place_at_45.ensures ∙ ap (λ n. is_spellable (place_at_45 n)) t,
      (
        ap is_spellable c.item-first.ensures ∙ parameter_spellable c.args.first c.requires.first,
        (ap is_spellable c.item-count.ensures ∙ parameter_spellable c.args.count c.requires.count, tt),
      ),
    )

pub returns : goal.returns
returns c =
    c.in_ok-push_text.ensures
    ∙ whole (rw c.unwrap.ensures at c.new.ensures.some) c.item-place_at_45.ensures c.item-first.ensures
    c.item-count.ensures c.in_ok-rows.ensures.rows
