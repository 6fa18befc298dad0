use Rattle.ed_link.proofs.Kit.{drop, ◌*◌, ◌++◌, ◌≡◌, map, word_item}
use Rattle.ed_link.proofs.punching.push_text.Given as goal

abbrev pub invariant-loop-code : goal.invariant-loop-code
invariant-loop-code l =
    l.items.items ++ map word_item (map (λ c. 4096 * c) (drop l.code-index l.codes))
    ≡ l.fn.items.items ++ map word_item (map (λ c. 4096 * c) l.codes)
