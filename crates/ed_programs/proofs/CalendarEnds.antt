-- The tape `examples/calendar.tape` from its first row to its stop, for any month and year.
use Rattle.ed_programs.proofs.Kit.{Size, Full, Small, Settings, moment_at, [], get_or, List, map, refl, subst, ℕ, ◌++◌}
use Rattle.ed_programs.proofs.Kit.{◌-◌, ◌∷◌, ◌≡◌, ◌≤◌, numbers, Text, State, Moment, state, patched, digits}
use Rattle.ed_programs.proofs.Kit.{ReachesStop, tape_state, TapeEntry, reading_on, first_state, calendar_orders}
use Rattle.ed_programs.proofs.Kit.{calendar_codes}
use Rattle.ed_programs.specs.declared.calendar.TheConstants.{CALENDAR}
use Rattle.ed_programs.proofs.CalendarCells.{IsAround, cells, frame, loaded}
use Rattle.ed_programs.proofs.CalendarProgram.{calendar_stops, entering}
use Rattle.ed_programs.proofs.TapeRuns.{Arrives, entry_with, rows_in}

-- the text up to the entry
abbrev pub front : Text
front = get_or (map (λ piece. piece.now) CALENDAR) 0 []

-- its rows, and the rest
abbrev pub calendar_rows : List ℕ → List ℕ
calendar_rows rest = rows_in front ++ rest

-- the words of the program at a number of locations, from the first of these downwards
abbrev placed_from : ℕ → ℕ → List (ℕ × ℕ)
placed_from first count = map (λ i. (first - i, get_or (cells loaded) (first - i - 56) 0)) (numbers 0 count)

abbrev placed : List (ℕ × ℕ)
placed =
    placed_from 188 133 ++ placed_from 347 18 ++ placed_from 328 39 ++ placed_from 286 87
    ++ placed_from 391 42 ++ (49, 400) ∷ (47, 660) ∷ (46, 580) ∷ (45, 700) ∷ []

-- the entry that they reach
abbrev pub calendar_entry : List ℕ → TapeEntry
calendar_entry rest = entry_with 56 10987 1034 (record { directive = 12400; theta = 112; placed = placed }) rest

pub calendar_arrives : (z : Size) (rest : List ℕ) → Arrives z (calendar_rows rest) (calendar_entry rest)
unfolding reading_on first_state
calendar_arrives Small rest = record { cleared = refl; started = refl }
calendar_arrives Full rest = record { cleared = refl; started = refl }

-- the rows of the data: F, 17, is after each number
abbrev pub data_rows : ℕ → ℕ → List ℕ
data_rows month year = digits month ++ 17 ∷ (digits year ++ 17 ∷ [])

module _ (t : Settings) (month year : ℕ) where
  abbrev rest : List ℕ
  rest = data_rows month year

  abbrev s : State
  s = tape_state t (calendar_rows rest) (calendar_entry rest)

  -- the words of the program are in the store
  same : patched 0 s.store.words 56 (cells loaded) ≡ s.store.words
  unfolding first_state patched
  same = refl

  abbrev around : Moment
  around = record (moment_at s) { last = s.last }

  is_around : IsAround around.words
  unfolding first_state
  is_around = record { all = refl; at2 = refl; at3 = refl }

  begins : state (frame t.size) (entering t.size around is_around month year) s.orders ≡ s
  unfolding first_state
  begins = λ i. record s { store = record { words = same i; sandwich = s.store.sandwich } }

  -- the month is printed, and the machine stops
  pub calendar_ends : 1 ≤ month → month ≤ 12 → 1901 ≤ year → year ≤ 2099
      → ReachesStop (calendar_orders month year - 1) s (calendar_codes month year) 188
  calendar_ends some few low high =
      subst (λ (x : State). ReachesStop (calendar_orders month year - 1) x (calendar_codes month year) 188) begins
      (calendar_stops t.size around is_around month year some few low high s.orders)
