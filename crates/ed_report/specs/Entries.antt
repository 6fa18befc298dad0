-- The lines that report where a tape is entered and where its program returned (this project's own rule). Each ends
-- with a line feed (10), and its numbers are in decimal.
use Rattle.std.specs.Prelude.{ℕ, List, [], ◌∷◌, ◌++◌, codes}
use Rattle.std.specs.Fmt.{decimal}

-- `entry E after N orders, R rows`, for a well-formed tape
abbrev pub entry_line : ℕ → ℕ → ℕ → List ℕ
entry_line at orders read =
    codes "entry " ++ decimal at ++ codes " after " ++ decimal orders ++ codes " orders, " ++ decimal read
    ++ codes " rows" ++ 10 ∷ []

-- `returned for A after N orders`, for a program that returned to the Initial Orders; A is the address in its directive
abbrev pub returned_line : ℕ → ℕ → List ℕ
returned_line address orders =
    codes "returned for " ++ decimal address ++ codes " after " ++ decimal orders ++ codes " orders" ++ 10 ∷ []
