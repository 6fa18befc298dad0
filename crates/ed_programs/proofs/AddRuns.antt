-- The source of `examples/add.edsac` for any two numbers: its path, and what it prints.
use Rattle.ed_programs.proofs.Kit.{before_order, Size, parameter_store, print_orders, digits_printed, stops_from_entry}
use Rattle.ed_programs.proofs.Kit.{pair_at_entry, along, print_line, ReachesStop, entry_state, reads_number}
use Rattle.ed_programs.proofs.Kit.{number_rows, stop_counted, Settings, Line, moment_at, append-nil, few_digits}
use Rattle.ed_programs.proofs.Kit.{SourceRuns, data_mark, pair_after, Z_F, to_stop, get_own, frame_at, length, Moment}
use Rattle.ed_programs.proofs.Kit.{settings, HasRead, calling, HasPair, IsIn, then, arith, false, List, lit<, lit≤, map}
use Rattle.ed_programs.proofs.Kit.{Frame, state, digits, Marked, Z, [], refl, sym, true, ◌≡◌, are_small, ℕ, ◌*◌, ◌+◌}
use Rattle.ed_programs.proofs.Kit.{◌<◌, ◌∷◌, Text, to, Path}
use Rattle.std.specs.Fmt.{decimal}
use Rattle.ed_programs.specs.Add.{add_orders, add_text}
use Rattle.ed_programs.specs.declared.add.TheConstants.{ADD}
use Rattle.ed_programs.proofs.DataLines.{small_too}
use Rattle.ed_programs.proofs.SourceRuns.{AreSaid, lines_of_pieces, program_runs}
use Rattle.ed_programs.proofs.Orders.{A, T, obeys}

-- the pieces of the source, and the numbers between them
abbrev add_pieces : List Text
add_pieces = map (λ piece. piece.now) ADD

abbrev add_data : ℕ → ℕ → List Text
add_data a b = decimal a ∷ decimal b ∷ []

-- its words, with the two cells that change
abbrev cells : ℕ → ℕ → List ℕ
cells value first =
    to 28 0 ∷ calling 70 ∷ to 28 12 ∷ to 5 13 ∷ to 28 4 ∷ calling 70 ∷ to 28 12 ∷ to 28 13 ∷ to 5 12 ∷ to 28 9
    ∷ calling 94 ∷ Z_F ∷ value ∷ first ∷ []

module _ (z : Size) (m : Moment) where
  abbrev f : Frame 14 0
  f = frame_at 14 z (lit≤ tt)

  -- at the cell i: the words of the store, the number in the accumulator, the two cells, and the rows left
  abbrev at : ℕ → List ℕ → ℕ → ℕ → ℕ → List ℕ → Moment
  at i words v value first tape =
      record (before_order m (56 + i) v (cells value first)) { words = words; tape = tape }

  -- the first number is put away
  puts : (words : List ℕ) (a : ℕ) (tape : List ℕ) → a < 65536 → Path f 2 (at 2 words 0 a 0 tape) []
      (at 4 words 0 a a tape)
  puts words a tape few = obeys 2 0 (A 12 a ∷ T 13 ∷ []) refl (omega arith)

  -- the second is added to it
  adds : (words : List ℕ) (a b : ℕ) → a + b < 65536 → Path f 3 (at 6 words 0 b a []) [] (at 9 words 0 (a + b) a [])
  adds words a b small = obeys 6 0 (A 12 b ∷ A 13 (a + b) ∷ T 12 ∷ []) refl (omega arith)

  -- the two numbers are read, added and printed, and the machine stops
  stops : HasPair f m.words 70 94 12 12 → (a b : ℕ) → a + b < 65536 → (done : ℕ)
      → ReachesStop (13 * length (digits a) + 13 * length (digits b) + print_orders (a + b) + 33)
      (state f (at 0 m.words 0 0 0 (number_rows (a ∷ b ∷ []))) done) (11 ∷ digits (a + b)) 68
  stops o a b small done =
      let few : a < 65536 = omega arith in
      let start : IsIn f (at 0 m.words 0 0 0 (number_rows (a ∷ b ∷ []))) =
      record { above = lit≤ tt; all = o.all; own = refl } in
      let one : HasRead start 0 12 70 a (number_rows (b ∷ [])) =
      reads_number start 0 12 a (number_rows (b ∷ [])) o.reads refl few (lit< tt) (lit≤ tt) refl refl refl in
      let after_one = pair_after one o in
      let second : IsIn f (at 4 one.words 0 a a (number_rows (b ∷ []))) =
      record { above = lit≤ tt; all = after_one.all; own = refl } in
      let two = reads_number second 4 12 b [] after_one.reads refl (omega arith) (lit< tt) (lit≤ tt) refl refl refl in
      let after_two = pair_after two after_one in
      let last : IsIn f (at 9 two.words 0 (a + b) a []) = record { above = lit≤ tt; all = after_two.all; own = refl } in
      let number = get_own 0 two.words 56 (cells (a + b) a) 12 (lit< tt) in
      stop_counted (to_stop
      (then one.journey
      (then (along (puts one.words a (number_rows (b ∷ [])) few))
      (then two.journey
      (then (along (adds two.words a b small))
      (print_line last {v = a + b} 9 12 after_two.prints number (lit< tt) small (lit≤ tt) refl refl refl)))))
      (Z 11 Z_F refl refl) done) (omega arith)

module _ (a b : ℕ) (small : a + b < 65536) where
  two_small : are_small (a ∷ b ∷ []) ≡ true
  two_small = small_too a (b ∷ []) (omega arith) (small_too b [] (omega arith) refl)

  -- the line with data
  abbrev marks : List (Marked false)
  marks = data_mark 21 (a ∷ b ∷ []) (lit≤ tt) (lit≤ tt) (lit≤ tt) two_small ∷ []

  abbrev lines : List Line
  lines = lines_of_pieces false add_pieces (add_data a b) marks

  said : AreSaid false add_pieces (add_data a b) marks
  unfolding settings parameter_store
  said = refl

  pub each_sum : (s : Settings) → SourceRuns s (add_text a b) (add_orders a b) 68 (decimal (a + b))
  unfolding settings parameter_store
  each_sum s =
      let z : Size = s.size in
      let few = few_digits (a + b) in
      program_runs s false add_pieces (add_data a b) marks said
      (stops_from_entry z lines refl 14 (lit≤ tt) (cells 0 0) refl refl (number_rows (a ∷ b ∷ []))
      (sym (append-nil (number_rows (a ∷ b ∷ []))))
      (stops z (moment_at (entry_state z lines))
      (pair_at_entry z lines 14 (lit≤ tt) 70 94 12 12 refl (lit≤ tt) (lit≤ tt) (lit≤ tt)) a b small
      (entry_state z lines).orders))
      (omega arith) (omega arith) (digits_printed (a + b) small)
