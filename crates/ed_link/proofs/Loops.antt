-- A function of a list, in a loop over the list that keeps its value at the items that are left.
use Rattle.ed_link.proofs.Kit.{[], ap, drop, drop_more, get_or, length, List, sym, ℕ, ◌+◌, ◌<◌, ◌∙◌, ◌∷◌, ◌≡◌, ◌≤◌}
use Rattle.std.proofs.lemmas.List.{at_drop_all}

-- at the current item
pub at_item : {X Y : Type 0} (F : List X → Y) (xs : List X) (i : ℕ) (d : X) (y : Y)
    → i < length xs → F (drop i xs) ≡ F xs → y ≡ F (get_or xs i d ∷ drop (i + 1) xs) → y ≡ F xs
at_item F xs i d y below same e = e ∙ sym (ap F (drop_more xs i d below)) ∙ same

-- after the last item
pub at_end : {X Y : Type 0} (F : List X → Y) (xs : List X) (i : ℕ)
    → length xs ≤ i → F (drop i xs) ≡ F xs → F [] ≡ F xs
at_end F xs i past same = sym (at_drop_all F xs i past) ∙ same
