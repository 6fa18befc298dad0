-- The text of codes, whatever codes come after them.
use Rattle.std.proofs.Common.{◌≡◌, ◌∙◌, ℕ, ◌+◌, ◌<◌, List, [], ◌++◌, sym, ap, append-nil, append_assoc}
use Rattle.std.proofs.Common.{drop, get_or, length}
use Rattle.std.proofs.lemmas.List.{drop_more}
use Rattle.ed_printer.specs.Paper.{paper_from, shift_after, struck_bytes}
use Rattle.ed_printer.specs.declared.printer.Shift.{Shift}

-- codes gave a text; whatever codes come next are printed in the shift that is left
abbrev pub Strikes : Shift → List ℕ → List ℕ → Shift → Type 0
Strikes start codes text left = (rest : List ℕ) → paper_from start (codes ++ rest) ≡ text ++ paper_from left rest

-- the text is what the codes print
pub struck_alone : (start : Shift) (codes text : List ℕ) (left : Shift) → Strikes start codes text left
    → text ≡ paper_from start codes
struck_alone start codes text left strikes =
    sym (ap (paper_from start) (sym (append-nil codes)) ∙ strikes [] ∙ append-nil text)

-- some codes of a list are printed, and the others will be
abbrev pub Printed : Shift → List ℕ → List ℕ → Shift → ℕ → Type 0
Printed start codes text shift place =
    (rest : List ℕ) → paper_from start (codes ++ rest) ≡ text ++ paper_from shift (drop place codes ++ rest)

-- one code more is printed
pub code_printed : (start shift next : Shift) (codes text grown : List ℕ) (place code : ℕ) → place < length codes
    → code ≡ get_or codes place code → grown ≡ text ++ struck_bytes shift code → next ≡ shift_after shift code
    → Printed start codes text shift place → Printed start codes grown next (place + 1)
code_printed start shift next codes text grown place code below is more after printed rest =
    let next_codes = drop (place + 1) codes in
    printed rest
    ∙ ap (λ (l : List ℕ). text ++ paper_from shift (l ++ rest)) (drop_more codes place code below)
    ∙ ap (λ (c : ℕ). text ++ (struck_bytes shift c ++ paper_from (shift_after shift c) (next_codes ++ rest))) (sym is)
    ∙ sym (append_assoc text (struck_bytes shift code) _)
    ∙ ap (λ (l : List ℕ). l ++ paper_from (shift_after shift code) (next_codes ++ rest)) (sym more)
    ∙ ap (λ (s : Shift). grown ++ paper_from s (next_codes ++ rest)) (sym after)
