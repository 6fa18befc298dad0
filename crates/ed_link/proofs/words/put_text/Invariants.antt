use Rattle.ed_link.proofs.Kit.{length, take, ◌*◌, ◌+◌, ◌≡◌, map, placed_words, put_all}
use Rattle.ed_link.proofs.words.put_text.Given as goal

abbrev pub invariant-loop-code : goal.invariant-loop-code
invariant-loop-code l =
    (l.table.items ≡ put_all l.fn.table.items (placed_words l.place (map (λ c. 4096 * c) (take l.code-index l.codes))))
    × (l.at ≡ l.place + l.code-index) × (length l.table.items ≡ length l.fn.table.items)
