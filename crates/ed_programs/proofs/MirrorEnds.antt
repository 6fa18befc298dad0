-- The tape `examples/mirror.tape` from its first row to its stop, for any word.
use Rattle.ed_programs.proofs.Kit.{Size, Full, Small, Settings, AreCodes, numbers, moment_at, [], get_or, length, List}
use Rattle.ed_programs.proofs.Kit.{map, refl, reverse, subst, ℕ, ◌*◌, ◌++◌, ◌+◌, ◌-◌, ◌∷◌, ◌≡◌, ◌≤◌, Text, State}
use Rattle.ed_programs.proofs.Kit.{Moment, state, patched, ReachesStop, tape_state, TapeEntry, reading_on, first_state}
use Rattle.ed_programs.specs.declared.mirror.TheConstants.{MIRROR}
use Rattle.ed_programs.proofs.MirrorProgram.{cells, entering, f, mirror_stops, storing}
use Rattle.ed_programs.proofs.TapeRuns.{Arrives, entry_with, rows_in}

-- the text up to the entry
abbrev pub front : Text
front = get_or (map (λ piece. piece.now) MIRROR) 0 []

-- its rows, and the rest
abbrev pub mirror_rows : List ℕ → List ℕ
mirror_rows rest = rows_in front ++ rest

-- the words of the program as they are loaded
abbrev loaded : List ℕ
loaded = cells (record { store = storing 0; print = 0; count = 0; scrap = 0; row = 0 })

-- the words that they place, the last one first
abbrev placed : List (ℕ × ℕ)
placed = map (λ i. (96 - i, get_or loaded (32 - i) 0)) (numbers 0 33)

-- the entry that they reach
abbrev pub mirror_entry : List ℕ → TapeEntry
mirror_entry rest = entry_with 64 1259 119 (record { directive = 12416; theta = 128; placed = placed }) rest

pub mirror_arrives : (z : Size) (rest : List ℕ) → Arrives z (mirror_rows rest) (mirror_entry rest)
unfolding reading_on first_state
mirror_arrives Small rest = record { cleared = refl; started = refl }
mirror_arrives Full rest = record { cleared = refl; started = refl }

module _ (t : Settings) (c : ℕ) (cs : List ℕ) where
  abbrev rest : List ℕ
  rest = length (c ∷ cs) ∷ (c ∷ cs)

  abbrev s : State
  s = tape_state t (mirror_rows rest) (mirror_entry rest)

  known : (length s.store.words ≡ 1024) × (get_or s.store.words 2 0 ≡ 2)
  unfolding first_state
  known = (refl, refl)

  same : patched 0 s.store.words 64 loaded ≡ s.store.words
  unfolding first_state patched
  same = refl

  abbrev around : Moment
  around = record (moment_at s) { last = s.last }

  begins : state (f t.size around) (entering t.size around (c ∷ cs)) s.orders ≡ s
  unfolding first_state
  begins = λ i. record s { store = record { words = same i; sandwich = s.store.sandwich } }

  -- the letters are printed backwards, and the machine stops
  pub mirror_ends : AreCodes (c ∷ cs) → length (c ∷ cs) ≤ 9
      → ReachesStop (21 * length (c ∷ cs) + 2) s (reverse (c ∷ cs)) 91
  mirror_ends are few =
      subst (λ (x : State). ReachesStop (21 * length (c ∷ cs) + 2) x (reverse (c ∷ cs)) 91) begins
      (mirror_stops t.size around c cs are few known.0 known.1 s.orders)
