-- The source of `examples/difference.edsac` for any two numbers, and what it prints.
use Rattle.std.specs.Prelude.{ℕ, ◌+◌, ◌-◌, ◌*◌, [], ◌∷◌, length, map, max, min, nat_lt, if◌then◌else◌}
use Rattle.std.specs.Fmt.{decimal}
use Rattle.ed_words.specs.Texts.{Text}
use Rattle.ed_routines.specs.Digits.{digits, print_orders}
use Rattle.ed_sources.specs.CallSources.{filled_text}
use Rattle.ed_programs.specs.declared.difference.TheConstants.{DIFFERENCE}

-- the whole text: the pieces of the source, and the numbers between them
abbrev pub difference_text : ℕ → ℕ → Text
difference_text a b = filled_text (map (λ piece. piece.now) DIFFERENCE) (decimal a ∷ decimal b ∷ [])

-- how far two numbers are apart
abbrev pub distance : ℕ → ℕ → ℕ
distance a b = max a b - min a b

-- 13 orders for each digit that is read, 3 if the second number is smaller, those of `print`, and 35 more
abbrev pub difference_orders : ℕ → ℕ → ℕ
difference_orders a b =
    13 * length (digits a) + 13 * length (digits b) + (if nat_lt b a then 3 else 0) + print_orders (distance a b) + 35
