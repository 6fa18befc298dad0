-- The source of `examples/difference.edsac` for any two numbers: its path, and what it prints.
use Rattle.ed_programs.proofs.Kit.{before_order, Z_F, if◌then◌else◌, parameter_store, digits_printed, stops_from_entry}
use Rattle.ed_programs.proofs.Kit.{pair_at_entry, map, print_orders, ReachesStop, entry_state, reads_number}
use Rattle.ed_programs.proofs.Kit.{number_rows, stop_counted, ltb-false, print_line, moment_at, [], append-nil}
use Rattle.ed_programs.proofs.Kit.{few_digits, SourceRuns, pair_after, Settings, to_stop, frame_at, length, ltb-true}
use Rattle.ed_programs.proofs.Kit.{settings, data_mark, along, get_own, arith, nat_lt, Moment, digits, HasRead, Marked}
use Rattle.ed_programs.proofs.Kit.{calling, HasPair, Size, Line, IsIn, then, Bool, false, List, lit<, lit≤, refl, Frame}
use Rattle.ed_programs.proofs.Kit.{state, to, Z, sym, true, ℕ, ◌*◌, ◌+◌, ◌-◌, ◌<◌, ◌∷◌, ◌≡◌, Text, Path}
use Rattle.std.specs.Fmt.{decimal}
use Rattle.ed_programs.specs.Difference.{difference_orders, difference_text, distance}
use Rattle.ed_programs.specs.declared.difference.TheConstants.{DIFFERENCE}
use Rattle.ed_programs.proofs.DataLines.{small_too}
use Rattle.ed_programs.proofs.SourceRuns.{AreSaid, lines_of_pieces, program_runs}
use Rattle.ed_programs.proofs.Orders.{A, E_jumps, E_stays, S, T, obeys}

-- the pieces of the source, and the numbers between them
abbrev difference_pieces : List Text
difference_pieces = map (λ piece. piece.now) DIFFERENCE

abbrev difference_data : ℕ → ℕ → List Text
difference_data a b = decimal a ∷ decimal b ∷ []

-- its words, with the three cells that change
abbrev cells : ℕ → ℕ → ℕ → List ℕ
cells number first scrap =
    to 28 0 ∷ calling 76 ∷ to 28 16 ∷ to 5 17 ∷ to 28 4 ∷ calling 76 ∷ to 28 16 ∷ to 12 17 ∷ to 3 12
    ∷ to 5 18 ∷ to 28 17
    ∷ to 12 16 ∷ to 5 16 ∷ to 28 13 ∷ calling 100 ∷ Z_F ∷ number ∷ first ∷ scrap ∷ []

module _ (z : Size) (m : Moment) where
  abbrev f : Frame 19 0
  f = frame_at 19 z (lit≤ tt)

  -- at the cell i: the words of the store, the number in the accumulator, the cells that change, and the rows left
  abbrev at : ℕ → List ℕ → ℕ → ℕ → ℕ → ℕ → List ℕ → Moment
  at i words v number first scrap tape =
      record (before_order m (56 + i) v (cells number first scrap)) { words = words; tape = tape }

  -- the smaller number is taken from the greater, in either case
  apart : (words : List ℕ) (a b : ℕ) → a < 65536 → b < 65536 → (smaller : Bool) → nat_lt b a ≡ smaller
      → (scrap : ℕ) × Path f (4 + (if smaller then 3 else 0)) (at 6 words 0 b a 0 []) []
      (at 13 words 0 (distance a b) a scrap [])
  apart words a b first second true is =
      let less = ltb-true b a is in (
        131072 - (a - b),
        obeys 6 0 (A 16 b ∷ S 17 (131072 - (a - b)) ∷ E_stays 12 ∷ T 18 ∷ A 17 a ∷ S 16 (distance a b)
            ∷ T 16 ∷ []) refl (omega arith),
      )
  apart words a b first second false is =
      let least = ltb-false b a is in (
        0,
        obeys 6 0 (A 16 b ∷ S 17 (distance a b) ∷ E_jumps 12 ∷ T 16 ∷ []) refl (omega arith),
      )

  -- the two numbers are read, the difference is printed, and the machine stops
  stops : HasPair f m.words 76 100 16 16 → (a b : ℕ) → a < 65536 → b < 65536 → (done : ℕ)
      → ReachesStop (13 * length (digits a) + 13 * length (digits b) + (if nat_lt b a then 3 else 0)
      + print_orders (distance a b) + 34)
      (state f (at 0 m.words 0 0 0 0 (number_rows (a ∷ b ∷ []))) done) (11 ∷ digits (distance a b)) 72
  stops o a b first second done =
      let start : IsIn f (at 0 m.words 0 0 0 0 (number_rows (a ∷ b ∷ []))) =
      record { above = lit≤ tt; all = o.all; own = refl } in
      let one : HasRead start 0 16 76 a (number_rows (b ∷ [])) =
      reads_number start 0 16 a (number_rows (b ∷ [])) o.reads refl first (lit< tt) (lit≤ tt) refl refl refl in
      let after_one = pair_after one o in
      let next : IsIn f (at 4 one.words 0 a a 0 (number_rows (b ∷ []))) =
      record { above = lit≤ tt; all = after_one.all; own = refl } in
      let two = reads_number next 4 16 b [] after_one.reads refl second (lit< tt) (lit≤ tt) refl refl refl in
      let after_two = pair_after two after_one in
      let takes = apart two.words a b first second (nat_lt b a) refl in
      let last : IsIn f (at 13 two.words 0 (distance a b) a takes.0 []) =
      record { above = lit≤ tt; all = after_two.all; own = refl } in
      let number = get_own 0 two.words 56 (cells (distance a b) a takes.0) 16 (lit< tt) in
      stop_counted (to_stop
      ((then) one.journey
      ((then) (along (obeys 2 0 (A 16 a ∷ T 17 ∷ []) refl (omega arith)))
      ((then) two.journey
      ((then) (along takes.1)
      (print_line last {v = distance a b} 13 16 after_two.prints number (lit< tt) (omega arith) (lit≤ tt) refl
      refl refl)))))
      (Z 15 Z_F refl refl) done) (omega arith)

module _ (a b : ℕ) (first : a < 65536) (second : b < 65536) where
  -- the line with data
  abbrev marks : List (Marked true)
  marks =
      data_mark 27 (a ∷ b ∷ []) (lit≤ tt) (lit≤ tt) (lit≤ tt) (small_too a (b ∷ []) first (small_too b [] second refl))
      ∷ []

  abbrev lines : List Line
  lines = lines_of_pieces true difference_pieces (difference_data a b) marks

  said : AreSaid true difference_pieces (difference_data a b) marks
  unfolding settings parameter_store
  said = refl

  pub each_difference : (s : Settings)
      → SourceRuns s (difference_text a b) (difference_orders a b) 72 (decimal (distance a b))
  unfolding settings parameter_store
  each_difference s =
      let z : Size = s.size in
      let few = few_digits (distance a b) in
      program_runs s true difference_pieces (difference_data a b) marks said
      (stops_from_entry z lines refl 19 (lit≤ tt) (cells 0 0 0) refl refl (number_rows (a ∷ b ∷ []))
      (sym (append-nil (number_rows (a ∷ b ∷ []))))
      (stops z (moment_at (entry_state z lines))
      (pair_at_entry z lines 19 (lit≤ tt) 76 100 16 16 refl (lit≤ tt) (lit≤ tt) (lit≤ tt)) a b first second
      (entry_state z lines).orders))
      (omega arith) (omega arith) (digits_printed (distance a b) (omega arith))
