-- The tape of May 1949 `examples/squares.tape1`, and what it prints.
use Rattle.std.specs.Prelude.{ℕ, ◌+◌, ◌*◌, ◌/◌, ◌%◌, List, [], ◌∷◌, ◌++◌, flat_map, map, sum_by}
use Rattle.ed_words.specs.Texts.{Text}
use Rattle.ed_sources.specs.CallSources.{filled_text}
use Rattle.ed_programs.specs.declared.squares.TheConstants.{SQUARES}

-- the whole tape
abbrev pub squares_text : Text
squares_text = filled_text (map (λ piece. piece.now) SQUARES) []

-- the numbers whose squares are printed
abbrev pub one_to_nine : List ℕ
one_to_nine = 1 ∷ 2 ∷ 3 ∷ 4 ∷ 5 ∷ 6 ∷ 7 ∷ 8 ∷ 9 ∷ []

-- a number below 100 in two figures (48 is the figure 0)
abbrev pub two_figures : ℕ → Text
two_figures n = (48 + n / 10) ∷ (48 + n % 10) ∷ []

-- each square in two figures, and a new line: carriage return and line feed
abbrev pub squares_prints : Text
squares_prints = flat_map (λ n. two_figures (n * n) ++ 13 ∷ 10 ∷ []) one_to_nine

-- the orders that load the tape
abbrev pub squares_cost : ℕ
squares_cost = 1471

-- 21 orders for each number and 8 for each ten of its square, and 3 more
abbrev pub squares_orders : ℕ
squares_orders = sum_by (λ n. 21 + 8 * (n * n / 10)) one_to_nine + 3
