-- What it means that a part of a tape can be read at any place (Wilkes, Wheeler and Gill 1951, for which the 41 orders
-- were written).
use Rattle.std.specs.Prelude.{◌≡◌, ◌⊎◌, ℕ, ◌+◌, ◌-◌, ◌*◌, ◌%◌, ◌^◌, ◌<◌, ◌≤◌, nat_eq, if◌then◌else◌, false, Some}
use Rattle.std.specs.Prelude.{List, [], ◌∷◌, ◌++◌, length, map, slice_index}
use Rattle.ed_notation.specs.Items.{Written, items}
use Rattle.ed_notation.specs.Fold.{NotationState, costs, fold, placed_at}
use Rattle.ed_notation.specs.Spellings.{canonical, digits_of}

-- T b K and G K
abbrev pub place_items : ℕ → List Written
place_items b = canonical (record { function = 5; number = b; mark = false; end = 14 })
    ∷ canonical (record { function = 27; number = 0; mark = false; end = 14 }) ∷ []

-- each of the items ends with F (17), θ (18) or D (19)
abbrev pub AreMovable : List Written → Type 0
AreMovable [] = Unit {0}
AreMovable (w ∷ ws) = ((w.end ≡ 17) ⊎ ((w.end ≡ 18) ⊎ (w.end ≡ 19))) × AreMovable ws

-- the word that an item with this ending gives at c, if it gives this word at b: θ adds twice the difference modulo
-- 2^17
abbrev pub moved : ℕ → ℕ → ℕ → ℕ → ℕ
moved b c end word = if nat_eq end 18 then (word + 2 ^ 17 + 2 * c - 2 * b) % 2 ^ 17 else word

-- after T b K G K, from any store and in any state of the notation, the items give a word for each location from b on.
-- After T c K G K they give the words from c on that are moved so. The costs differ by 9 orders for each digit of b and
-- c.
pub record MovesWords (b c : ℕ) (ws : List Written) : Type 0 where
  pub words : (v w : List ℕ) (n m : NotationState) (k : ℕ) → k < length ws
      → (word : ℕ) × (placed_at (fold v n (items (place_items b ++ ws))).placed (b + k) ≡ Some word)
      × (placed_at (fold w m (items (place_items c ++ ws))).placed (c + k)
      ≡ Some (moved b c (slice_index (map (λ w. w.end) ws) k) word))
  pub cost : (v w : List ℕ) (n m : NotationState)
      → costs v n (place_items b ++ ws) + 9 * length (digits_of c)
      ≡ costs w m (place_items c ++ ws) + 9 * length (digits_of b)

-- the same for all such items that end before the end of the store at both places
abbrev pub EachPartMoves : Type 0
EachPartMoves = (b c : ℕ) (ws : List Written) → b + length ws ≤ 1024 → c + length ws ≤ 1024 → AreMovable ws
    → MovesWords b c ws
