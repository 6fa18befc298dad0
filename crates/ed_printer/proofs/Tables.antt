-- The characters of the two tables have the bytes of the two lists.
use Rattle.std.proofs.Common.{◌≡◌, ◌∙◌, ℕ, ◌<◌, Bool, true, List, [], refl, ap}
use Rattle.std.specs.Prelude.{slice_index, slice_index_or}
use Rattle.std.specs.Str.{bytes_eq}
use Rattle.std.proofs.lemmas.Slice.Eq.{bytes_eq-Decides}
use Rattle.ed_codes.proofs.Below.{holds_below, from_below}
use Rattle.ed_printer.specs.Paper.{bytes_of, letters_printed, figures_printed, struck_bytes}
use Rattle.ed_printer.specs.declared.printer.Shift.{Shift}
use Rattle.ed_printer.specs.declared.printer.Shift.TheVariants.{Letters, Figures}
use Rattle.ed_printer.specs.declared.printer.TheConstants.{LETTERS, FIGURES}

-- a character of a table has the bytes of a list, at each code
abbrev agrees : List ℕ → List (List ℕ) → ℕ → Bool
agrees characters lists code = bytes_eq (bytes_of (slice_index characters code)) (slice_index_or lists code [])

entry : (characters : List ℕ) (lists : List (List ℕ)) (place code : ℕ) → holds_below (agrees characters lists) 32 ≡ true
    → place ≡ code → place < 32 → bytes_of (slice_index characters place) ≡ slice_index_or lists code []
entry characters lists place code all same below =
    (bytes_eq-Decides (bytes_of (slice_index characters place)) (slice_index_or lists place [])).0
    (from_below (agrees characters lists) 32 place all below)
    ∙ ap (λ (k : ℕ). slice_index_or lists k []) same

-- letter shift
pub letters_entry : (shift : Shift) (place code : ℕ) → shift ≡ Letters → place ≡ code → place < 32
    → bytes_of (slice_index LETTERS.now place) ≡ struck_bytes shift code
letters_entry shift place code is same below = rw is (entry LETTERS.now letters_printed place code refl same below)

-- figure shift
pub figures_entry : (shift : Shift) (place code : ℕ) → shift ≡ Figures → place ≡ code → place < 32
    → bytes_of (slice_index FIGURES.now place) ≡ struck_bytes shift code
figures_entry shift place code is same below = rw is (entry FIGURES.now figures_printed place code refl same below)
