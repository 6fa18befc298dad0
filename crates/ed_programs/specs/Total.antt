-- The source of `examples/total.edsac` for any list of numbers, and what it prints.
use Rattle.std.specs.Prelude.{ℕ, ◌+◌, ◌*◌, List, [], ◌∷◌, ◌++◌, length, map, nat_lt, if◌then◌else◌, Option, Some}
use Rattle.std.specs.Prelude.{sum_by}
use Rattle.ed_words.specs.Texts.{Text}
use Rattle.ed_routines.specs.Digits.{digits, print_orders, sum}
use Rattle.ed_sources.specs.CallSources.{filled_text}
use Rattle.ed_programs.specs.Lists.{list_refusal, numbers_text}
use Rattle.ed_programs.specs.declared.total.TheConstants.{TOTAL}
use Rattle.ed_programs.specs.declared.refusal.Refusal.{Refusal}
use Rattle.ed_programs.specs.declared.refusal.Refusal.TheVariants.{Number}

-- the whole text: the pieces of the source, and the numbers between them, and the 0 that ends them
abbrev pub total_text : List ℕ → Text
total_text ns = filled_text (map (λ piece. piece.now) TOTAL) (numbers_text (ns ++ 0 ∷ []) ∷ [])

-- why numbers below 65536 are refused as its data, if they are: one of them is 0, their sum is too large, or they don't
-- fit on the line
abbrev pub total_refusal : List ℕ → Option Refusal
total_refusal ns = if nat_lt (sum ns) 65536 then list_refusal 1 ns 0 else Some Number

-- the orders: for each number 13 for each digit that is read, and 20; those of `print`, and 33 more
abbrev pub total_orders : List ℕ → ℕ
total_orders ns = sum_by (λ n. 13 * length (digits n) + 20) ns + print_orders (sum ns) + 33
