use Rattle.ed_link.proofs.Kit.{Item, [], ap, List, refl, ℕ, ◌*◌, ◌++◌, ◌∙◌, ◌∷◌, one_more, map, word_item}
use Rattle.ed_link.proofs.Steps.{all_given}
use Rattle.ed_link.proofs.punching.push_text.Goals as goal

-- the items of some codes
abbrev items_of_codes : List ℕ → List Item
items_of_codes codes = map word_item (map (λ n. 4096 * n) codes)

pub loop-code-init : goal.loop-code-init
loop-code-init c = refl

pub loop-code-preserved : goal.loop-code-preserved
loop-code-preserved c =
    let l = c.loop-code in
    let done = l.items.items in
    let code = c.code-item.result in
    let whole = c.of_number-word.ensures ∙ ap (λ (n : ℕ). 4096 * n) (c.from.ensures ∙ c.value.ensures.is) in
    one_more items_of_codes c.args.codes.now l.code-index code done (word_item (4096 * code) ∷ []) _
    c.loop-code-test.true c.code-item.is refl
    (c.in_ok-push.ensures ∙ ap (λ (i : Item). done ++ i ∷ []) (c.word_item.ensures ∙ ap word_item whole)) l.invariant

pub returns : goal.returns
returns c =
    all_given items_of_codes c.args.codes.now c.loop-code.code-index c.loop-code.items.items c.loop-code-test.false refl
    c.loop-code.invariant
