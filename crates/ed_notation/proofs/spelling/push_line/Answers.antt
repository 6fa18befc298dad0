use Rattle.ed_notation.proofs.Kit.{[], List, nat_lt, ℕ, ◌++◌, ◌∷◌, at_drop_all, ap, sym, ◌∙◌, line_from}
use Rattle.ed_notation.proofs.Parts.{more_line}
use Rattle.ed_notation.proofs.spelling.push_line.Goals as goal

pub loop-i-preserved : goal.loop-i-preserved
loop-i-preserved c =
    let done = c.loop-i.text.items in
    more_line _ _ _ done c.loop-i-test.true c.index-rows-i.is
    (c.in_ok-push.ensures.items ∙ ap (λ (b : ℕ). done ++ b ∷ []) c.byte_of.ensures.is) c.loop-i.invariant

pub returns : goal.returns
returns c =
    c.in_ok-push-2.ensures.items ∙ ap (λ (xs : List ℕ). c.loop-i.text.items ++ xs)
    (sym (at_drop_all (line_from (nat_lt 0 c.loop-i.i)) _ _ c.loop-i-test.false)) ∙ c.loop-i.invariant
