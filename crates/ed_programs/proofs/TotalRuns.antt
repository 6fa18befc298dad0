-- The source of `examples/total.edsac` for any list: its path, and what it prints.
use Rattle.ed_programs.proofs.Kit.{before_order, Z_F, Size, Z, Settings, Line, sum_by, along, IsIn, Journey, stop_after}
use Rattle.ed_programs.proofs.Kit.{then, to_stop, print_line, get_own, frame_at, moment_at, [], append-nil, arith}
use Rattle.ed_programs.proofs.Kit.{false, length, List, lit<, lit≤, map, nat_le, refl, sym, true, ℕ, ◌*◌, ◌++◌, ◌+◌}
use Rattle.ed_programs.proofs.Kit.{◌-◌, ◌<◌, ◌∙◌, ◌∷◌, ◌≡◌, ◌≤◌, list_all, and_from, and_parts, leb-true, lt-ltb}
use Rattle.ed_programs.proofs.Kit.{sum_by-cons, Text, Frame, Moment, state, settings, parameter_store, digits}
use Rattle.ed_programs.proofs.Kit.{print_orders, few_digits, ReachesStop, entry_state, digits_printed, numbers_text}
use Rattle.ed_programs.proofs.Kit.{SourceRuns, total_text, reads_number, are_small, number_rows, stops_from_entry}
use Rattle.ed_programs.proofs.Kit.{Marked, to, calling, journey_counted, stop_counted, HasPair, pair_after}
use Rattle.ed_programs.proofs.Kit.{pair_at_entry, Path}
use Rattle.std.specs.Fmt.{decimal}
use Rattle.ed_routines.specs.Digits.{sum}
use Rattle.ed_programs.specs.Total.{total_orders}
use Rattle.ed_programs.specs.declared.total.TheConstants.{TOTAL}
use Rattle.ed_programs.proofs.DataLines.{list_mark}
use Rattle.ed_programs.proofs.NumberLists.{ended_small, ended_some}
use Rattle.ed_programs.proofs.SourceRuns.{AreSaid, lines_of_pieces, program_runs}
use Rattle.ed_programs.proofs.Orders.{A, E_jumps, G_jumps, G_stays, S, T, obeys}

-- the pieces of the source
abbrev pub total_pieces : List Text
total_pieces = map (λ piece. piece.now) TOTAL

-- the orders for a number
abbrev adding_orders : ℕ → ℕ
adding_orders n = 13 * length (digits n) + 20

-- its words, with the three cells that change
abbrev cells : ℕ → ℕ → ℕ → List ℕ
cells value sum scrap =
    to 28 0 ∷ calling 74 ∷ to 28 13 ∷ to 12 15 ∷ to 27 9 ∷ to 28 15 ∷ to 28 14 ∷ to 5 14 ∷ to 3 0 ∷ to 5 16 ∷ to 28 10
    ∷ calling 98 ∷ Z_F ∷ value ∷ sum ∷ 1 ∷ scrap ∷ []

module _ (z : Size) (m : Moment) where
  abbrev f : Frame 17 0
  f = frame_at 17 z (lit≤ tt)

  -- at the cell i: the words of the store, the number in the accumulator, the three cells, and the rows left
  abbrev at : ℕ → List ℕ → ℕ → ℕ → ℕ → ℕ → List ℕ → Moment
  at i words v value sum scrap tape =
      record (before_order m (56 + i) v (cells value sum scrap)) { words = words; tape = tape }

  -- a number is added to the sum
  adds : (words : List ℕ) (n so_far : ℕ) (tape : List ℕ) → 1 ≤ n → so_far + n < 65536
      → Path f 7 (at 2 words 0 n so_far 0 tape) [] (at 0 words 0 n (so_far + n) 0 tape)
  adds words n so_far tape some small =
      obeys 2 0 (A 13 n ∷ S 15 (n - 1) ∷ G_stays 9 ∷ A 15 n ∷ A 14 (so_far + n) ∷ T 14 ∷ E_jumps 0 ∷ []) refl
      (omega arith)

  -- after 0 the sum is shown
  ends : (words : List ℕ) (sum : ℕ) → Path f 4 (at 2 words 0 0 sum 0 []) [] (at 10 words 0 0 sum 131071 [])
  ends words sum = obeys 2 0 (A 13 0 ∷ S 15 131071 ∷ G_jumps 9 ∷ T 16 ∷ []) refl (omega arith)

  -- the numbers are read and added to a sum, it is printed, and the machine stops
  stops : (ns : List ℕ) (so_far all value : ℕ) (words : List ℕ) → HasPair f words 74 98 13 14
      → list_all (λ n. nat_le 1 n) ns ≡ true → so_far + sum ns ≡ all → all < 65536 → (done : ℕ)
      → ReachesStop (sum_by adding_orders ns + print_orders all + 32)
      (state f (at 0 words 0 value so_far 0 (number_rows (ns ++ 0 ∷ []))) done) (11 ∷ digits all) 69
  stops [] so_far all value words has least is small done =
      let start : IsIn f (at 0 words 0 value so_far 0 (number_rows (0 ∷ []))) =
      record { above = lit≤ tt; all = has.all; own = refl } in
      let one = reads_number start 0 13 0 [] has.reads refl (lit< tt) (lit< tt) (lit≤ tt) refl refl refl in
      let read = pair_after one has in
      let last : IsIn f (at 10 one.words 0 0 so_far 131071 []) =
      record { above = lit≤ tt; all = read.all; own = refl } in
      let same : so_far ≡ all = omega (arith, is) in
      let number = get_own 0 one.words 56 (cells 0 so_far 131071) 14 (lit< tt) ∙ same in
      stop_counted (to_stop (then one.journey
      (then (along (ends one.words so_far))
      (print_line last {v = all} 10 14 read.prints number (lit< tt) small (lit≤ tt) refl refl refl)))
      (Z 12 Z_F refl refl) done) (omega arith)
  stops (n ∷ ns) so_far all value words has least is small done =
      let l = and_parts (nat_le 1 n) (list_all (λ n. nat_le 1 n) ns) least in
      let orders = sum_by-cons adding_orders n ns in
      let some = leb-true 1 n l.0 in
      let low : so_far + n < 65536 = omega (arith, is) in
      let few : n < 65536 = omega arith in
      let rest : List ℕ = number_rows (ns ++ 0 ∷ []) in
      let start : IsIn f (at 0 words 0 value so_far 0 (digits n ++ 17 ∷ rest)) =
      record { above = lit≤ tt; all = has.all; own = refl } in
      let one = reads_number start 0 13 n rest has.reads refl few (lit< tt) (lit≤ tt) refl refl refl in
      let turn : Journey f (adding_orders n)
      (at 0 words 0 value so_far 0 (digits n ++ 17 ∷ rest)) [] (at 0 one.words 0 n (so_far + n) 0 rest) =
      journey_counted (then one.journey (along (adds one.words n so_far rest some low))) (omega arith) in
      stop_counted (stop_after (turn.leads done) refl
      (stops ns (so_far + n) all n one.words (pair_after one has) l.1 (omega (arith, is)) small
      (done + adding_orders n))) (omega arith)

sum_bounds : (ns : List ℕ) → sum ns < 65536 → are_small ns ≡ true
sum_bounds [] l = refl
sum_bounds (n ∷ ns) l = and_from _ _ (lt-ltb n 65536 (omega arith)) (sum_bounds ns (omega arith))

module _ (ns : List ℕ) (least : list_all (λ n. nat_le 1 n) ns ≡ true) (small : sum ns < 65536)
    (fits : length (numbers_text (ns ++ 0 ∷ [])) ≤ 113) where
  -- the line with data
  abbrev marks : List (Marked false)
  marks = list_mark 24 (ns ++ 0 ∷ []) (lit≤ tt) (ended_some ns 0) fits
      (ended_small ns 0 (sum_bounds ns small) (lit< tt)) ∷ []

  abbrev texts : List Text
  texts = numbers_text (ns ++ 0 ∷ []) ∷ []

  abbrev lines : List Line
  lines = lines_of_pieces false total_pieces texts marks

  said : AreSaid false total_pieces texts marks
  unfolding settings parameter_store
  said = refl

  pub each_total : (s : Settings) → SourceRuns s (total_text ns) (total_orders ns) 69 (decimal (sum ns))
  unfolding settings parameter_store
  each_total s =
      let z : Size = s.size in
      let few = few_digits (sum ns) in
      program_runs s false total_pieces texts marks said
      (stops_from_entry z lines refl 17 (lit≤ tt) (cells 0 0 0) refl refl (number_rows (ns ++ 0 ∷ []))
      (sym (append-nil (number_rows (ns ++ 0 ∷ []))))
      (stops z (moment_at (entry_state z lines)) ns 0 (sum ns) 0 (entry_state z lines).store.words
      (pair_at_entry z lines 17 (lit≤ tt) 74 98 13 14 refl (lit≤ tt) (lit≤ tt) (lit≤ tt)) least (omega arith)
      small (entry_state z lines).orders))
      (omega arith) (omega arith) (digits_printed (sum ns) small)
