-- The store as the code keeps it: 512 cells of 35 digits, each the long word of a pair. These definitions read the
-- cells as words and sandwich digits.
use Rattle.std.specs.Prelude.{◌≡◌, ℕ, ◌^◌, ◌<◌, Bool, List, [], ◌∷◌, length, slice_index}
use Rattle.ed_words.specs.Words.{halves_of}
use Rattle.ed_store.specs.Cells.{Cells}

-- the words of the cells: for each pair, that of the even and that of the odd location
abbrev pub cell_words : List ℕ → List ℕ
cell_words [] = []
cell_words (cell ∷ cells) = (halves_of cell).even ∷ (halves_of cell).odd ∷ cell_words cells

-- the sandwich digits of the cells
abbrev pub sandwich_digits : List ℕ → List Bool
sandwich_digits [] = []
sandwich_digits (cell ∷ cells) = (halves_of cell).sandwich ∷ sandwich_digits cells

-- the store that the cells represent
abbrev pub unpacked_cells : List ℕ → Cells
unpacked_cells cells = record { words = cell_words cells; sandwich = sandwich_digits cells }

-- what holds of each list of cells
pub record ArePacked (cells : List ℕ) : Type 0 where
  pub many : length cells ≡ 512
  pub fits : (k : ℕ) → slice_index cells k < 2 ^ 35
