-- The lines that describe the library's routines (this project's own rule).
use Rattle.std.specs.Prelude.{ℕ, false, List, ◌∷◌, [], ◌++◌, codes, length, flat_map}
use Rattle.std.specs.Fmt.{decimal}
use Rattle.ed_codes.specs.Spelling.{byte_of}
use Rattle.ed_library.specs.Entries.{Routine, catalogue}

-- a blank and the letter of a parameter
abbrev pub parameter_text : ℕ → List ℕ
parameter_text code = 32 ∷ byte_of code false ∷ []

-- a routine's name, a blank, its length, its parameters, and a line feed
abbrev pub routine_line : Routine → List ℕ
routine_line e = e.name ++ codes " " ++ decimal (length e.items) ++ flat_map parameter_text e.parameters ++ 10 ∷ []

-- a line for each of these routines
abbrev pub routine_lines : List Routine → List ℕ
routine_lines entries = flat_map routine_line entries

-- a line for each routine of the library, in the catalogue's order
abbrev pub library_text : List ℕ
library_text = routine_lines catalogue
