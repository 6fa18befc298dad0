-- One code more on the paper.
use Rattle.std.proofs.Common.{◌≡◌, ◌∙◌, ℕ, List, [], ◌∷◌, ◌++◌, refl, sym, ap, append_assoc}
use Rattle.std.specs.Prelude.{reverse}
use Rattle.std.proofs.lemmas.Grind.{reverse_onto}
use Rattle.std.proofs.lemmas.List.{append-nil}
use Rattle.ed_printer.specs.Paper.{struck_bytes, shift_after, paper_from, latest_shift, IsInLatestShift}
use Rattle.ed_printer.specs.declared.printer.Shift.{Shift}
use Rattle.ed_printer.specs.declared.printer.Shift.TheVariants.{Letters}

-- `latest_shift`, with a given shift if there is no 11 or 15
abbrev latest_or : Shift → List ℕ → Shift
latest_or shift [] = shift
latest_or shift (code ∷ codes) = shift_after (latest_or shift codes) code

latest_is : (codes : List ℕ) → latest_shift codes ≡ latest_or Letters codes
latest_is [] = refl
latest_is (code ∷ codes) = ap (λ (s : Shift). shift_after s code) (latest_is codes)

-- the earliest code is last in the list
latest_earlier : (shift : Shift) (codes : List ℕ) (code : ℕ)
    → latest_or shift (codes ++ code ∷ []) ≡ latest_or (shift_after shift code) codes
latest_earlier shift [] code = refl
latest_earlier shift (c ∷ codes) code = ap (λ (s : Shift). shift_after s c) (latest_earlier shift codes code)

more : (shift : Shift) (before : List ℕ) (code : ℕ)
    → paper_from shift (before ++ code ∷ [])
    ≡ paper_from shift before ++ struck_bytes (latest_or shift (reverse before)) code
more shift [] code = append-nil (struck_bytes shift code)
more shift (c ∷ before) code =
    ap (λ (bytes : List ℕ). struck_bytes shift c ++ bytes) (more (shift_after shift c) before code)
    ∙ sym (append_assoc (struck_bytes shift c) (paper_from (shift_after shift c) before) _)
    ∙ ap (λ (s : Shift). (struck_bytes shift c ++ paper_from (shift_after shift c) before) ++ struck_bytes s code)
    (sym (latest_earlier shift (reverse before) c) ∙ ap (latest_or shift) (sym (reverse_onto before c [])))

-- each code is printed in the latest shift
pub in_latest_shift : IsInLatestShift
in_latest_shift before code = rw (latest_is (reverse before)) (more Letters before code)
