-- The rows of items are those of their canonical spellings.
use Rattle.ed_notation.proofs.Kit.{[], Bool, false, if◌then◌else◌, List, refl, true, ℕ, ◌++◌, ◌∷◌, ◌≡◌, flat_map, ap}
use Rattle.ed_notation.proofs.Kit.{mark_rows, rows_of, spelled_rows, canonical, canonicals, digits_of, Item, rules}
use Rattle.ed_codes.specs.declared.letters.TheConstants.{PI}
use Rattle.ed_notation.specs.Spellings.{item_rows}

marks_are : (mark : Bool) → ◌≡◌ {A = List ℕ} (if mark then PI ∷ [] else []) (mark_rows mark)
marks_are true = refl
marks_are false = refl

pub item_rows_are : (i : Item) → item_rows i ≡ rows_of (canonical i)
item_rows_are i =
    ap (λ (marks : List ℕ). i.function ∷ digits_of i.number ++ marks ++ i.end ∷ []) (marks_are i.mark)

pub all_rows_are : (is : List Item) → flat_map item_rows is ≡ spelled_rows (canonicals is)
all_rows_are [] = refl
all_rows_are (i ∷ is) = search (rules, item_rows_are, all_rows_are is)
