-- The lines that list words of a store (this project's own rule).
use Rattle.std.specs.Prelude.{ℕ, ◌-◌, List, [], ◌∷◌, ◌++◌, codes, length, flat_map}
use Rattle.std.specs.List.{repeat}
use Rattle.std.specs.Fmt.{decimal}
use Rattle.ed_store.specs.Cells.{Cells, short_at}
use Rattle.ed_orders.specs.Texts.{order_text}

-- a number in decimal, right-aligned in `width` columns
abbrev pub right : ℕ → ℕ → List ℕ
right width n = repeat (width - length (decimal n)) (codes " ") ++ decimal n

-- a location, its word as a number and as an order, and a line feed
abbrev pub listing_line : Cells → ℕ → List ℕ
listing_line store place =
    right 4 place ++ codes " " ++ right 6 (short_at store place) ++ codes " "
    ++ order_text (short_at store place) ++ 10 ∷ []

-- a line for each of the locations
abbrev pub listing : Cells → List ℕ → List ℕ
listing store places = flat_map (listing_line store) places
