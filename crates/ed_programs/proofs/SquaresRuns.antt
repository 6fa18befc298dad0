-- What `examples/squares.tape1` prints.
use Rattle.ed_programs.proofs.Kit.{moment_at, Settings, at_entry1, Item1, INPUT_BYTES, [], length, List, refl, rules, ℕ}
use Rattle.ed_programs.proofs.Kit.{◌∷◌, leb-true, State, Moment, patched, Tape, first_state1, paper_room, FirstTapeRuns}
use Rattle.ed_initial1.specs.Items.{spelled_rows1}
use Rattle.ed_programs.specs.Squares.{squares_cost, squares_orders, squares_prints, squares_text}
use Rattle.ed_programs.proofs.FirstTapeRuns.{are_items, first_tape_runs, short_item}
use Rattle.ed_programs.proofs.SquaresProgram.{all_codes, squares_stop}

-- its items
abbrev items : List Item1
items =
    short_item 5 (7 ∷ 4 ∷ []) ∷ short_item 9 (6 ∷ 1 ∷ []) ∷ short_item 5 (6 ∷ 2 ∷ []) ∷ short_item 28 (6 ∷ 3 ∷ [])
    ∷ short_item 28 (6 ∷ 4 ∷ []) ∷ short_item 5 (6 ∷ 3 ∷ []) ∷ short_item 28 (6 ∷ 4 ∷ []) ∷ short_item 28 (6 ∷ 5 ∷ [])
    ∷ short_item 5 (6 ∷ 4 ∷ []) ∷ short_item 5 (6 ∷ 9 ∷ []) ∷ short_item 28 (6 ∷ 3 ∷ []) ∷ short_item 12 (6 ∷ 6 ∷ [])
    ∷ short_item 27 (5 ∷ 0 ∷ []) ∷ short_item 5 (7 ∷ 0 ∷ []) ∷ short_item 28 (6 ∷ 9 ∷ []) ∷ short_item 28 (6 ∷ 8 ∷ [])
    ∷ short_item 5 (6 ∷ 9 ∷ []) ∷ short_item 28 (7 ∷ 0 ∷ []) ∷ short_item 3 (4 ∷ 2 ∷ []) ∷ short_item 28 (6 ∷ 6 ∷ [])
    ∷ short_item 25 (5 ∷ 1 ∷ 2 ∷ []) ∷ short_item 5 (7 ∷ 1 ∷ []) ∷ short_item 9 (6 ∷ 9 ∷ [])
    ∷ short_item 9 (7 ∷ 1 ∷ []) ∷ short_item 9 (7 ∷ 2 ∷ []) ∷ short_item 9 (7 ∷ 3 ∷ []) ∷ short_item 28 (6 ∷ 3 ∷ [])
    ∷ short_item 12 (6 ∷ 7 ∷ []) ∷ short_item 27 (3 ∷ 3 ∷ []) ∷ short_item 13 [] ∷ short_item 11 [] ∷ short_item 0 []
    ∷ short_item 0 [] ∷ short_item 0 (1 ∷ []) ∷ short_item 0 (2 ∷ []) ∷ short_item 0 (1 ∷ 0 ∷ [])
    ∷ short_item 0 (8 ∷ 1 ∷ []) ∷ short_item 1 [] ∷ short_item 0 [] ∷ short_item 0 [] ∷ short_item 0 []
    ∷ short_item 18 [] ∷ short_item 24 [] ∷ []

abbrev program : Tape
program = record { end = 74; items = items; rest = [] }

abbrev tape_rows : List ℕ
tape_rows = spelled_rows1 items

-- ---- at the entry

abbrev entry : State
entry = at_entry1 (first_state1 tape_rows) program

abbrev around : Moment
around = record (moment_at entry) { counter = 31; last = entry.last }

pub squares_run : (s : Settings) → FirstTapeRuns s squares_text squares_cost squares_orders 61 squares_prints
unfolding first_state1 patched
squares_run s =
    first_tape_runs s squares_text tape_rows program refl (leb-true (length squares_text) INPUT_BYTES refl)
    (search (rules, are_items)) (squares_stop around entry.orders)
    (leb-true (length (all_codes around)) paper_room refl)
