use Rattle.ed_notation.proofs.Kit.{drop, ◌++◌, ◌≡◌, canonicals, text_of}
use Rattle.ed_notation.proofs.spelling.text_of_items.Given as goal

abbrev pub invariant-loop-item : goal.invariant-loop-item
invariant-loop-item l = l.text.items ++ text_of (canonicals (drop l.item-index l.items)) ≡ text_of (canonicals l.items)
