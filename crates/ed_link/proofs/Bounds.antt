-- The number of rows that a line gives.
use Rattle.ed_link.proofs.Kit.{item_rows, Item, [], arith, Bool, length, length-append, List, lit≤, Option, true, ℕ}
use Rattle.ed_link.proofs.Kit.{◌*◌, ◌+◌, ◌∷◌, ◌≤◌, flat_map, Setting, Statement, ◌^◌, length-map, LocationCounter}
use Rattle.ed_link.proofs.Kit.{Definition, parameter_letters, set_to, IsFew, items_of, preset_items, routine_items}
use Rattle.ed_link.proofs.Kit.{use_items, with_heading}
use Rattle.ed_notation.proofs.Kit.{digit_at, digits_of}
use Rattle.ed_notation.proofs.ItemRows.{item_rows_are}

-- a digit of a number has at most one row
pub length-one : (p n : ℕ) → length (digit_at p n) ≤ 1
length-one p n = grind arith

-- a number has at most 5 digit rows
digits_few : (n : ℕ) → length (digits_of n) ≤ 5
digits_few n = grind (arith, length-append, length-one)

-- an item has at most 8 rows
pub rows_few : (is : List Item) → length (flat_map item_rows is) ≤ 8 * length is
rows_few [] = lit≤ tt
rows_few (i ∷ is) = grind (arith, length-append, item_rows_are, rows_few is, digits_few)

-- a whole tape
pub tape_few : (is : List Item) (rows : List ℕ) → length is ≤ 480000 → length rows ≤ 240000
    → length (flat_map item_rows is) + length rows ≤ 2 ^ 22
tape_few is rows h k = omega (arith, h, k, rows_few is)

-- the head of a segment is 2 items
pub headed_few : (is : List Item) (first : Bool) (base : ℕ) → length (with_heading is first base) ≤ length is + 2
headed_few is first base = grind arith

-- a parameter is 2 items
presets_few : (symbols : List Definition) (ts : List Setting) (cs : List ℕ)
    → length (flat_map (λ c. preset_items symbols (set_to ts c) c) cs) ≤ 2 * length cs
presets_few symbols ts [] = lit≤ tt
presets_few symbols ts (c ∷ cs) = grind (arith, length-append, presets_few symbols ts cs)

-- the 6 parameters and the head of a routine are 14 items
pub use_few : (symbols : List Definition) (ts : List Setting) (base : ℕ) (found : Option ℕ)
    → length (use_items symbols ts base found) ≤ length (routine_items found) + 14
use_few symbols ts base found =
    let few = presets_few symbols ts parameter_letters in
    rw length-append (omega (arith, few, headed_few (routine_items found) true base))

-- a line gives at most 240 items
pub items_few : (symbols : List Definition) (s : LocationCounter) (st : Option Statement) → IsFew st
    → length (items_of symbols s st) ≤ 240
items_few symbols s st h = grind (arith, length-map, headed_few, use_few)
