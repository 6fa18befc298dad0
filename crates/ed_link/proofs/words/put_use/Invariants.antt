use Rattle.ed_link.proofs.Kit.{length, take, ◌≡◌, map, entry, routine_word, table_item, placed_words, put_all}
use Rattle.ed_link.proofs.words.put_use.Given as goal

abbrev pub invariant-loop-place : goal.invariant-loop-place
invariant-loop-place l =
    (l.table.items
    ≡ put_all l.initial.table.items (placed_words l.base
    (map (λ row. routine_word l.parameters l.base (table_item row)) (take l.place (entry l.routine).items))))
    × (length l.table.items ≡ length l.initial.table.items)
