-- The source of `examples/fraction.edsac` for any fraction, and what it prints.
use Rattle.std.specs.Prelude.{ℕ, zero, suc, ◌+◌, ◌*◌, ◌/◌, ◌%◌, ◌^◌, [], ◌∷◌, ◌++◌, length, map, nat_le, ◌&&◌}
use Rattle.std.specs.Prelude.{if◌then◌else◌}
use Rattle.std.specs.Prelude.{Option, Some, None}
use Rattle.std.specs.Fmt.{decimal}
use Rattle.ed_words.specs.Texts.{Text}
use Rattle.ed_routines.specs.Digits.{digits, print_orders}
use Rattle.ed_maths.specs.Quotients.{divide_orders}
use Rattle.ed_sources.specs.CallSources.{filled_text}
use Rattle.ed_programs.specs.declared.fraction.TheConstants.{FRACTION}
use Rattle.ed_programs.specs.declared.refusal.Refusal.{Refusal}
use Rattle.ed_programs.specs.declared.refusal.Refusal.TheVariants.{Divisor}

-- the whole text: the pieces of the source, and the numbers between them
abbrev pub fraction_text : ℕ → ℕ → ℕ → Text
fraction_text u l n = filled_text (map (λ piece. piece.now) FRACTION) (decimal u ∷ decimal l ∷ decimal n ∷ [])

-- why numbers below 65536 are refused as its data, if they are
abbrev pub fraction_refusal : ℕ → Option Refusal
fraction_refusal lower = if nat_le 1 lower && nat_le lower 6553 then None else Some Divisor

-- the figure at a place after the point, counted from 1
abbrev pub figure : ℕ → ℕ → ℕ → ℕ
figure upper lower place = 10 ^ place * upper / lower % 10

-- the figures up to a place
abbrev pub figures : ℕ → ℕ → ℕ → Text
figures upper lower zero = []
figures upper lower (suc n) = figures upper lower n ++ decimal (figure upper lower (n + 1))

-- the part before the point, a point (46), and the figures
abbrev pub fraction_prints : ℕ → ℕ → ℕ → Text
fraction_prints upper lower places = decimal (upper / lower) ++ 46 ∷ figures upper lower places

-- the orders for the figures up to a place: those of `divide` and `print`, and 17 more for each
abbrev pub figure_orders : ℕ → ℕ → ℕ → ℕ
figure_orders upper lower zero = 0
figure_orders upper lower (suc n) =
    figure_orders upper lower n + 17
    + divide_orders (figure upper lower (n + 1)) + print_orders (figure upper lower (n + 1))

-- the orders from the entry: 13 for each digit that is read, those of `divide` and `print` for the whole part, those of
-- the figures, and 53 more
abbrev pub fraction_orders : ℕ → ℕ → ℕ → ℕ
fraction_orders upper lower places =
    13 * length (digits upper) + 13 * length (digits lower) + 13 * length (digits places)
    + divide_orders (upper / lower) + print_orders (upper / lower) + figure_orders upper lower places + 53
