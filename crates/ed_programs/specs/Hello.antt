-- The source of `examples/hello.edsac` for any text, and what it prints.
use Rattle.std.specs.Prelude.{ℕ, ◌≤◌, Bool, ◌&&◌, List, [], ◌∷◌, ◌++◌, length, map, nat_le, nat_lt, ◌+◌, ◌*◌}
use Rattle.std.specs.Prelude.{◌==◌, ◌||◌, if◌then◌else◌, Option, Some, None}
use Rattle.std.specs.Fmt.{decimal}
use Rattle.std.specs.List.{list_all}
use Rattle.ed_words.specs.Texts.{Text}
use Rattle.ed_syntax.specs.Forms.{AreRowsOf}
use Rattle.ed_printer.specs.Paper.{paper}
use Rattle.ed_run.specs.declared.settings.Settings.{Settings}
use Rattle.ed_sources.specs.CallSources.{filled_text}
use Rattle.ed_programs.specs.Programs.{SourceRuns}
use Rattle.ed_programs.specs.declared.hello.TheConstants.{HELLO}
use Rattle.ed_programs.specs.declared.refusal.Refusal.{Refusal}
use Rattle.ed_programs.specs.declared.refusal.Refusal.TheVariants.{Length, Letter}

-- the whole text: the pieces of the source, and between them the number of rows and the bytes that spell them
abbrev pub hello_text : Text → Text
hello_text q = filled_text (map (λ piece. piece.now) HELLO) (decimal (length q) ∷ q ∷ [])

-- a text of letters, after the letter shift with which it begins (42 is *)
abbrev pub of_letters : Text → Text
of_letters letters = 42 ∷ letters

-- a capital letter
abbrev pub is_capital : ℕ → Bool
is_capital b = nat_le 65 b && nat_le b 90

-- why a text is refused as 1 to `most` capital letters, if it is
abbrev pub letters_refusal : ℕ → Text → Option Refusal
letters_refusal most letters =
    if length letters == 0 || nat_lt most (length letters) then Some Length
    else if list_all is_capital letters then None else Some Letter

-- for every text of up to 41 bytes that spell rows, the program prints these rows and a new line, in 7 orders a row and 9
-- more, and stops at 67
abbrev pub EachTextIsPrinted : Type 0
EachTextIsPrinted =
    (s : Settings) (q : Text) (rows : List ℕ) → AreRowsOf q rows → length q ≤ 41
    → SourceRuns s (hello_text q) (7 * length q + 9) 67 (paper (rows ++ 18 ∷ 24 ∷ []))

-- 7 orders a letter, and 16 more
abbrev pub hello_orders : Text → ℕ
hello_orders letters = 7 * length letters + 16
