-- What holds of the whole catalogue: its routines can be linked, and are in order of name (this project's own rule).
use Rattle.std.specs.Prelude.{ℕ, ◌==◌, Bool, true, false, ◌&&◌, nat_le, nat_lt, List, [], ◌∷◌, length, if◌then◌else◌}
use Rattle.std.specs.List.{list_all, list_any}
use Rattle.ed_codes.specs.declared.letters.TheConstants.{D, F, H, THETA, X}
use Rattle.ed_notation.specs.Spellings.{is_spellable}
use Rattle.ed_library.specs.Entries.{Routine}
use Rattle.ed_library.specs.Routines.{table_item}
use Rattle.ed_library.specs.declared.tables.TableRow.{TableRow}

-- whether a code is the letter of a preset parameter: H, N, M, &, L or X
abbrev pub is_parameter : ℕ → Bool
is_parameter c = nat_le H c && nat_le c X

-- whether each number is greater than the one before it
abbrev pub are_rising : List ℕ → Bool
are_rising [] = true
are_rising (a ∷ []) = true
are_rising (a ∷ b ∷ cs) = nat_lt a b && are_rising (b ∷ cs)

-- whether an item can be spelled and ends with F, θ, D or one of these letters
abbrev pub is_ready_row : List ℕ → TableRow → Bool
is_ready_row letters row = is_spellable (table_item row) && list_any (λ c. c == row.end) (F ∷ THETA ∷ D ∷ letters)

-- whether the letters of a routine are those of parameters, in ascending order
abbrev pub are_letters : List ℕ → Bool
are_letters letters = are_rising letters && list_all is_parameter letters

-- whether a routine can be linked: it has items, the words that it changes are its own, and its letters and its items
-- are ready
abbrev pub is_ready : Routine → Bool
is_ready e =
    (nat_lt 0 (length e.items) && list_all (λ p. nat_lt p (length e.items)) e.working)
    && (are_letters e.parameters && list_all (is_ready_row e.parameters) e.items)

-- whether one name sorts before another
abbrev pub comes_before : List ℕ → List ℕ → Bool
comes_before [] [] = false
comes_before [] (b ∷ bs) = true
comes_before (a ∷ more) [] = false
comes_before (a ∷ more) (b ∷ bs) = if a == b then comes_before more bs else nat_lt a b

-- whether routines are in order of name, no name twice
abbrev pub are_ordered : List Routine → Bool
are_ordered [] = true
are_ordered (e ∷ []) = true
are_ordered (e ∷ f ∷ es) = comes_before e.name f.name && are_ordered (f ∷ es)
