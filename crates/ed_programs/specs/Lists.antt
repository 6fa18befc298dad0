-- Lists of numbers that a program reads from its tape, up to one that is below all of them.
use Rattle.std.specs.Prelude.{ℕ, List, [], ◌∷◌, ◌++◌, length, nat_le, nat_lt, ◌&&◌, if◌then◌else◌, Option, Some, None}
use Rattle.std.specs.Fmt.{decimal}
use Rattle.std.specs.List.{list_all}
use Rattle.ed_words.specs.Texts.{Text}
use Rattle.ed_programs.specs.declared.refusal.Refusal.{Refusal}
use Rattle.ed_programs.specs.declared.refusal.Refusal.TheVariants.{End, Line}

-- numbers in decimal, each with an F (70), which ends it
abbrev pub numbers_text : List ℕ → Text
numbers_text [] = []
numbers_text (n ∷ ns) = decimal n ++ 70 ∷ numbers_text ns

-- why a list is refused, if it is: none of its numbers is below `least`, the one that ends it is, and with their Fs they
-- have at most the 113 bytes that a source's line `data` has between its quotes
abbrev pub list_refusal : ℕ → List ℕ → ℕ → Option Refusal
list_refusal least ns end =
    if nat_lt end least && list_all (λ n. nat_le least n) ns then
    (if nat_le (length (numbers_text (ns ++ end ∷ []))) 113 then None else Some Line)
    else Some End

-- numbers in decimal, each on a line: carriage return (13) and line feed (10)
abbrev pub on_lines : List ℕ → Text
on_lines [] = []
on_lines (n ∷ ns) = decimal n ++ 13 ∷ 10 ∷ on_lines ns
