-- The catalogue of the library: its routines in order of name (this project's own). Everywhere below, a routine is
-- given by its index in the catalogue, counted from 0.
use Rattle.std.specs.Prelude.{ℕ, List, [], ◌∷◌, length, slice_index_or, codes}
use Rattle.ed_codes.specs.declared.letters.TheConstants.{H, M, N}
use Rattle.ed_library.specs.declared.tables.TableRow.{TableRow}
use Rattle.ed_library.specs.declared.tables.TheConstants.{CHECK, DIVIDE, NEWLINE, PRINT, READ, ROOT}

-- what the catalogue says of a routine: its name, the letters of its preset parameters, the offsets of the words of its
-- own that it changes, and its items, each a row with a function, a number, whether a π follows the number, and an
-- ending row
pub record Routine : Type 0 where
  pub name : List ℕ
  pub parameters : List ℕ
  pub working : List ℕ
  pub items : List TableRow

-- the routines in order of name
abbrev pub catalogue : List Routine
catalogue =
    record {
      name = codes "check";
      parameters = H ∷ [];
      working = 0 ∷ 40 ∷ 58 ∷ 59 ∷ 60 ∷ 61 ∷ 62 ∷ 63 ∷ 64 ∷ 65 ∷ [];
      items = CHECK;
    }
    ∷ record {
      name = codes "divide";
      parameters = H ∷ N ∷ M ∷ [];
      working = 32 ∷ 35 ∷ 36 ∷ 37 ∷ 38 ∷ 39 ∷ 40 ∷ [];
      items = DIVIDE;
    }
    ∷ record { name = codes "newline"; parameters = []; working = 4 ∷ []; items = NEWLINE }
    ∷ record { name = codes "print"; parameters = H ∷ []; working = 11 ∷ 38 ∷ 47 ∷ 48 ∷ 49 ∷ 50 ∷ []; items = PRINT }
    ∷ record { name = codes "read"; parameters = H ∷ []; working = 19 ∷ 21 ∷ 22 ∷ 23 ∷ []; items = READ }
    ∷ record { name = codes "root"; parameters = H ∷ N ∷ []; working = 18 ∷ 21 ∷ 22 ∷ []; items = ROOT }
    ∷ []

-- the number of routines
abbrev pub how_many : ℕ
how_many = length catalogue

-- an entry for an index that is not in the catalogue
abbrev pub no_entry : Routine
no_entry = record { name = []; parameters = []; working = []; items = [] }

-- the entry of a routine in the catalogue
abbrev pub entry : ℕ → Routine
entry r = slice_index_or catalogue r no_entry
