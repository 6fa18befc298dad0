-- A tape cut at an item's end.
use Rattle.ed_notation.proofs.Kit.{[], append_assoc, List, refl, ◌++◌, ◌∷◌, ◌≡◌, ap, spelled_rows, Written, canonical}
use Rattle.ed_notation.proofs.Kit.{canonicals, Item, rules}

pub spelled-append : (vs ws : List Written) → spelled_rows (vs ++ ws) ≡ spelled_rows vs ++ spelled_rows ws
spelled-append [] ws = refl
spelled-append (v ∷ vs) ws = search (rules, append_assoc, spelled-append vs ws)

pub canonicals-append : (is js : List Item) → canonicals (is ++ js) ≡ canonicals is ++ canonicals js
canonicals-append [] js = refl
canonicals-append (i ∷ is) js = ap (λ ws. canonical i ∷ ws) (canonicals-append is js)
