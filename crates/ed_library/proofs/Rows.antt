-- Each row of a table has codes.
use Rattle.std.proofs.Common.{◌≡◌, ◌∙◌, ◌<◌, ◌≤◌, ap, arith, refl, ℕ, true, Option, Some, None, List, length, get_or}
use Rattle.std.proofs.Common.{nat_lt}
use Rattle.std.specs.Prelude.{slice_index_or, IsNone, IsSome}
use Rattle.std.specs.List.{list_all}
use Rattle.std.proofs.lemmas.Bool.{and_parts}
use Rattle.std.proofs.lemmas.List.Sums.{AllPass-from_list_all}
use Rattle.std.proofs.lemmas.Bool.{ltb-true}
use Rattle.ed_codes.proofs.Below.{from_below}
use Rattle.ed_library.specs.Entries.{entry, how_many}
use Rattle.ed_library.specs.Routines.{is_row}
use Rattle.ed_library.specs.declared.tables.TableRow.{TableRow}

-- the function of a row is a code
pub row_function : (rows : List TableRow) (k : ℕ) (d : TableRow) → list_all is_row rows ≡ true
    → k < length rows
    → (slice_index_or rows k d).function < 32
row_function rows k d h below = ltb-true _ _ (and_parts _ _ (AllPass-from_list_all is_row rows h k d below)).0

-- the ending of a row is a code
pub row_end : (rows : List TableRow) (k : ℕ) (d : TableRow) → list_all is_row rows ≡ true
    → k < length rows
    → (slice_index_or rows k d).end < 32
row_end rows k d h below = ltb-true _ _ (and_parts _ _ (AllPass-from_list_all is_row rows h k d below)).1

-- a number below 32 makes a code
pub is_code : {A : Type 0} {n : ℕ} (code : Option A) → (IsNone code → 32 ≤ n) → n < 32 → IsSome code
is_code None high low = let h = high refl in absurd (omega (arith, h, low))
is_code (Some made) high low = refl

-- the letters of a routine are codes
pub letter_code : (letters : List ℕ) (r k : ℕ) → letters ≡ (entry r).parameters → r < how_many → k < length letters
    → get_or letters k 0 < 32
letter_code letters r k is known below =
    let codes = ap (list_all (λ c. nat_lt c 32)) is
    ∙ from_below (λ n. list_all (λ c. nat_lt c 32) (entry n).parameters) 6 r refl known in
    ltb-true _ 32 (AllPass-from_list_all (λ c. nat_lt c 32) letters codes k 0 below)
