-- The source of `examples/celsius.edsac` for any list of temperatures, and what it prints.
use Rattle.std.specs.Prelude.{ℕ, ◌+◌, ◌-◌, ◌*◌, ◌/◌, List, [], ◌∷◌, ◌++◌, length, map, sum_by}
use Rattle.ed_words.specs.Texts.{Text}
use Rattle.ed_routines.specs.Digits.{digits, print_orders}
use Rattle.ed_sources.specs.CallSources.{filled_text}
use Rattle.ed_programs.specs.Lists.{numbers_text}
use Rattle.ed_programs.specs.declared.celsius.TheConstants.{CELSIUS}

-- the whole text: the pieces of the source, and the numbers between them, the one that ends them last
abbrev pub celsius_text : List ℕ → ℕ → Text
celsius_text ns end = filled_text (map (λ piece. piece.now) CELSIUS) (numbers_text (ns ++ end ∷ []) ∷ [])

-- the whole degrees Celsius of a temperature in degrees Fahrenheit
abbrev pub celsius : ℕ → ℕ
celsius n = 5 * (n - 32) / 9

-- the orders: for each temperature 13 for each digit that is read, those of `print`, and 30; and 13 for each digit of
-- the number that ends them, and 17 more
abbrev pub celsius_orders : List ℕ → ℕ → ℕ
celsius_orders ns end =
    sum_by (λ n. 13 * length (digits n) + print_orders (celsius n) + 30) ns + 13 * length (digits end) + 17
