-- Items that can be spelled, by the test of all and by that of each.
use Rattle.ed_link.proofs.Kit.{AreSpellable, Item, [], List, refl, true, ◌∷◌, ◌≡◌, list_all, and_parts, is_spellable}
use Rattle.ed_link.proofs.Kit.{and_from}

-- the test of all items by the test of each
pub all_spellable : (is : List Item) → AreSpellable is → list_all is_spellable is ≡ true
all_spellable [] are = refl
all_spellable (i ∷ is) are = and_from _ _ are.0 (all_spellable is are.1)

-- the test of each item by the test of all
pub are_spellable : (is : List Item) → list_all is_spellable is ≡ true → AreSpellable is
are_spellable [] h = tt
are_spellable (i ∷ is) h = let p = and_parts _ _ h in (p.0, are_spellable is p.1)
