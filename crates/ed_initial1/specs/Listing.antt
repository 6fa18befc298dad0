-- The 31 words of Initial Orders 1 (the listing of May 1949), which Start places in the locations 0 to 30. In this
-- notation S is the length digit 0 and L is the length digit 1; the functions of these letters have names.
use Rattle.std.specs.Prelude.{ℕ, Bool, true, false, List, [], ◌∷◌}
use Rattle.ed_codes.specs.declared.letters.TheConstants.{A, E, G, H, I, P, R, T, U, V, L as left, S as subtract}
use Rattle.ed_initial.specs.Listing.{listed_order}

-- the words in the order of their locations, each written as an order
abbrev pub first_orders : List ℕ
first_orders =
    listed_order T 0 S ∷ listed_order H 2 S ∷ listed_order T 0 S ∷ listed_order E 6 S ∷ listed_order P 1 S
    ∷ listed_order P 5 S ∷ listed_order T 0 S ∷ listed_order I 0 S ∷ listed_order A 0 S ∷ listed_order R 16 S
    ∷ listed_order T 0 L ∷ listed_order I 2 S ∷ listed_order A 2 S ∷ listed_order subtract 5 S ∷ listed_order E 21 S
    ∷ listed_order T 3 S ∷ listed_order V 1 S ∷ listed_order left 8 S ∷ listed_order A 2 S ∷ listed_order T 1 S
    ∷ listed_order E 11 S ∷ listed_order R 4 S ∷ listed_order A 1 S ∷ listed_order left 0 L ∷ listed_order A 0 S
    ∷ listed_order T 31 S ∷ listed_order A 25 S ∷ listed_order A 4 S ∷ listed_order U 25 S ∷ listed_order subtract 31 S
    ∷ listed_order G 6 S ∷ []
  where
    -- the length of an order
    S : Bool
    S = false

    L : Bool
    L = true
