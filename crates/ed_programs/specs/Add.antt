-- The source of `examples/add.edsac` for any two numbers, and what it prints.
use Rattle.std.specs.Prelude.{ℕ, ◌+◌, ◌*◌, [], ◌∷◌, length, map, nat_lt, if◌then◌else◌, Option, Some, None}
use Rattle.std.specs.Fmt.{decimal}
use Rattle.ed_words.specs.Texts.{Text}
use Rattle.ed_routines.specs.Digits.{digits, print_orders}
use Rattle.ed_sources.specs.CallSources.{filled_text}
use Rattle.ed_programs.specs.declared.add.TheConstants.{ADD}
use Rattle.ed_programs.specs.declared.refusal.Refusal.{Refusal}
use Rattle.ed_programs.specs.declared.refusal.Refusal.TheVariants.{Number}

-- the whole text: the pieces of the source, and the numbers between them
abbrev pub add_text : ℕ → ℕ → Text
add_text a b = filled_text (map (λ piece. piece.now) ADD) (decimal a ∷ decimal b ∷ [])

-- why the data of `examples/add.edsac`, two numbers below 65536, are refused, if they are: `print` can't print their
-- sum
abbrev pub add_refusal : ℕ → ℕ → Option Refusal
add_refusal a b = if nat_lt (a + b) 65536 then None else Some Number

-- 13 orders for each digit that is read, those of `print`, and 34 more
abbrev pub add_orders : ℕ → ℕ → ℕ
add_orders a b = 13 * length (digits a) + 13 * length (digits b) + print_orders (a + b) + 34
