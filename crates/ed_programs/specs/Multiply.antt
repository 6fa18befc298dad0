-- The source of `examples/answer5.edsac` for any numbers.
use Rattle.std.specs.Prelude.{ℕ, ◌+◌, ◌*◌, [], ◌∷◌, ◌++◌, map, nat_lt, ◌&&◌, if◌then◌else◌, Option, Some, None}
use Rattle.std.specs.Fmt.{decimal}
use Rattle.ed_words.specs.Texts.{Text}
use Rattle.ed_routines.specs.Digits.{print_orders}
use Rattle.ed_sources.specs.CallSources.{filled_text}
use Rattle.ed_programs.specs.declared.multiply.TheConstants.{MULTIPLY}
use Rattle.ed_programs.specs.declared.refusal.Refusal.{Refusal}
use Rattle.ed_programs.specs.declared.refusal.Refusal.TheVariants.{Number}

-- the whole text: the pieces of the source, and the numbers between them: a and b are multiplied, and c is squared
abbrev pub multiply_text : ℕ → ℕ → ℕ → Text
multiply_text a b c = filled_text (map (λ piece. piece.now) MULTIPLY) (decimal c ∷ decimal a ∷ decimal b ∷ [])

-- why three numbers below 65536 are refused as the data of `examples/answer5.edsac`, if they are
abbrev pub multiply_refusal : ℕ → ℕ → ℕ → Option Refusal
multiply_refusal a b c = if nat_lt (a * b) 65536 && nat_lt (c * c) 65536 then None else Some Number

-- the product and the square, each on a line
abbrev pub multiply_prints : ℕ → ℕ → ℕ → Text
multiply_prints a b c = decimal (a * b) ++ 13 ∷ 10 ∷ (decimal (c * c) ++ 13 ∷ 10 ∷ [])

-- 9 orders for each time that a number is added, those of `print`, and 54 more
abbrev pub multiply_orders : ℕ → ℕ → ℕ → ℕ
multiply_orders a b c = 9 * a + 9 * c + print_orders (a * b) + print_orders (c * c) + 54
