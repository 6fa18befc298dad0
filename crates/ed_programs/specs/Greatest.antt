-- The source of `examples/answer6.edsac` for any list of eight numbers, and what it prints.
use Rattle.std.specs.Prelude.{ℕ, ◌+◌, ◌*◌, List, [], ◌∷◌, codes, length, map, max, nat_lt, if◌then◌else◌, ◌==◌, Option}
use Rattle.std.specs.Prelude.{Some, None}
use Rattle.std.specs.Fmt.{decimal}
use Rattle.ed_words.specs.Texts.{Text}
use Rattle.ed_routines.specs.Digits.{print_orders}
use Rattle.ed_sources.specs.CallSources.{filled_text}
use Rattle.ed_programs.specs.Programs.{spread_pieces}
use Rattle.ed_programs.specs.declared.greatest.TheConstants.{GREATEST}
use Rattle.ed_programs.specs.declared.refusal.Refusal.{Refusal}
use Rattle.ed_programs.specs.declared.refusal.Refusal.TheVariants.{Count}

-- the whole text: the pieces of the source, and the eight numbers between them, each but the first on a line of its own
-- (10)
abbrev pub greatest_text : List ℕ → Text
greatest_text ns =
    filled_text (spread_pieces 7 (10 ∷ codes "word ") (map (λ piece. piece.now) GREATEST)) (map decimal ns)

-- why numbers below 65536 are refused as the data of `examples/answer6.edsac`, if they are
abbrev pub greatest_refusal : List ℕ → Option Refusal
greatest_refusal ns = if length ns == 8 then None else Some Count

-- the greatest of some numbers, 0 if there are no numbers
abbrev pub greatest_of : List ℕ → ℕ
greatest_of [] = 0
greatest_of (n ∷ ns) = max n (greatest_of ns)

-- how many numbers are at least as great as `most` and as all numbers before them
abbrev pub rises : ℕ → List ℕ → ℕ
rises most [] = 0
rises most (n ∷ ns) = if nat_lt n most then rises most ns else 1 + rises n ns

-- 13 orders for each of the eight, 3 for each that is at least as great as those before it, those of `print`, and 4
abbrev pub greatest_orders : List ℕ → ℕ
greatest_orders ns = 3 * rises 0 ns + print_orders (greatest_of ns) + 108
