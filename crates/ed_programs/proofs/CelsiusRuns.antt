-- The source of `examples/celsius.edsac` for any list: its path, and what it prints.
use Rattle.ed_programs.proofs.Kit.{before_order, followed, Z_F, Size, Z, Settings, Line, sum_by, along, IsIn, Journey}
use Rattle.ed_programs.proofs.Kit.{stop_after, then, to_stop, frame_at, moment_at, [], append-nil, arith, false, length}
use Rattle.ed_programs.proofs.Kit.{List, lit<, lit≤, map, nat_le, nat_lt, None, Option, refl, Some, sym, true, ℕ, ◌*◌}
use Rattle.ed_programs.proofs.Kit.{◌++◌, ◌+◌, ◌-◌, ◌/◌, ◌<◌, ◌^◌, ◌∷◌, ◌≡◌, ◌≤◌, list_all, and_from, and_parts}
use Rattle.ed_programs.proofs.Kit.{leb-true, lt-ltb, ltb-true, length-map, sum_by-cons, Text, Frame, Moment, state, on}
use Rattle.ed_programs.proofs.Kit.{Path, stay, own, settings, parameter_store, digits, print_orders, ReachesStop}
use Rattle.ed_programs.proofs.Kit.{entry_state, celsius_text, numbers_text, on_lines, SourceRuns, reads_number}
use Rattle.ed_programs.proofs.Kit.{are_small, number_rows, shows_number, stops_from_entry, Marked, to, calling}
use Rattle.ed_programs.proofs.Kit.{journey_counted, stop_counted, HasThree, three_read, three_shown, three_at_entry}
use Rattle.ed_machine.proofs.Kit.Moves.{H, V, T_top}
use Rattle.ed_programs.specs.Celsius.{celsius, celsius_orders}
use Rattle.ed_programs.specs.declared.celsius.TheConstants.{CELSIUS}
use Rattle.ed_programs.proofs.DataLines.{list_mark}
use Rattle.ed_programs.proofs.NumberLists.{ended_small, ended_some, few_codes, few_numbers, list_codes, list_shown}
use Rattle.ed_programs.proofs.NumberShown.{then_on}
use Rattle.ed_programs.proofs.SourceRuns.{AreSaid, lines_of_pieces, program_runs}
use Rattle.ed_programs.proofs.Orders.{A, E_jumps, G_jumps, G_stays, S, T, obeys}

-- 36,409 of 65,536 is five ninths as far as the words go
ninths : (v : ℕ) → v < 65536 → v * (36409 * 2 ^ 38) / 2 ^ 54 ≡ 5 * v / 9
ninths v small = omega arith

-- the pieces of the source
abbrev pub celsius_pieces : List Text
celsius_pieces = map (λ piece. piece.now) CELSIUS

-- the orders for a temperature
abbrev conversion_orders : ℕ → ℕ
conversion_orders n = 13 * length (digits n) + print_orders (celsius n) + 30

-- its words, with the cell that changes
abbrev cells : ℕ → List ℕ
cells value =
    to 28 0 ∷ calling 74 ∷ to 28 15 ∷ to 12 16 ∷ to 27 14 ∷ to 5 15 ∷ to 21 17 ∷ to 31 15 ∷ to 5 15 ∷ to 28 9
    ∷ calling 98 ∷ to 28 11 ∷ calling 150 ∷ to 3 0 ∷ Z_F ∷ value ∷ 32 ∷ 36409 ∷ []

module _ (z : Size) (m : Moment) where
  abbrev f : Frame 18 0
  f = frame_at 18 z (lit≤ tt)

  -- at the cell i: the words of the store, the number in the accumulator, the cell, the multiplier, the last code and
  -- the rows left
  abbrev at : ℕ → List ℕ → ℕ → ℕ → ℕ → Option ℕ → List ℕ → Moment
  at i words v value factor last tape =
      record (before_order m (56 + i) v (cells value)) { words = words; multiplier = factor; tape = tape; last = last }

  -- a temperature is read and printed in degrees Celsius
  record Turned (n value factor : ℕ) (words : List ℕ) (last : Option ℕ) (rest : List ℕ) : Type 0 where
    after : List ℕ
    three : HasThree f after 74 98 150 15
    journey : Journey f (conversion_orders n) (at 0 words 0 value factor last (digits n ++ 17 ∷ rest))
        (11 ∷ digits (celsius n) ++ 18 ∷ 24 ∷ []) (at 0 after 0 (celsius n) (36409 * 2 ^ 18) (Some 24) rest)

  turn : (n value factor : ℕ) (words : List ℕ) (last : Option ℕ) (rest : List ℕ) → HasThree f words 74 98 150 15
      → 32 ≤ n → n < 65536 → Turned n value factor words last rest
  turn n value factor words last rest three least small =
      let start : IsIn f (at 0 words 0 value factor last (digits n ++ 17 ∷ rest)) =
      record { above = lit≤ tt; all = three.both.all; own = refl } in
      let one = reads_number start 0 15 n rest three.both.reads refl small (lit< tt) (lit≤ tt) refl refl refl in
      let read = three_read one three in
      let q : ℕ = celsius n in
      let converts : Path f 7 (at 2 one.words 0 n factor last rest) [] (at 9 one.words 0 q (36409 * 2 ^ 18) last rest) =
      followed (obeys 2 0 (A 15 n ∷ S 16 (n - 32) ∷ G_stays 14 ∷ T 15 ∷ []) refl (omega arith))
      (on (H 6 (own 17) refl)
      (on (V 7 (own 15) ((n - 32) * (36409 * 2 ^ 38)) refl (omega arith))
      (on (T_top 8 (own 15) q refl (ninths (n - 32) (omega arith))) stay))) in
      let ready : IsIn f (at 9 one.words 0 q (36409 * 2 ^ 18) last rest) =
      record { above = lit≤ tt; all = read.both.all; own = refl } in
      let shown = shows_number ready 9 15 q read.both.prints read.lines read.beyond refl (omega arith) (lit< tt)
      (lit≤ tt) refl refl refl refl refl in
      record {
        after = shown.words;
        three = three_shown shown read;
        journey = journey_counted (then one.journey (then (along converts)
            (then_on shown.journey (obeys 13 0 (E_jumps 0 ∷ []) refl (omega arith))))) (omega arith);
      }

  -- all of them, and the stop
  stops : (ns : List ℕ) (end value factor : ℕ) (words : List ℕ) (last : Option ℕ) → HasThree f words 74 98 150 15
      → are_small ns ≡ true → list_all (λ n. nat_le 32 n) ns ≡ true → end < 32 → (done : ℕ)
      → ReachesStop (sum_by conversion_orders ns + 13 * length (digits end) + 16)
      (state f (at 0 words 0 value factor last (number_rows (ns ++ end ∷ []))) done) (list_codes (map celsius ns)) 71
  stops [] end value factor words last three small least low done =
      let start : IsIn f (at 0 words 0 value factor last (number_rows (end ∷ []))) =
      record { above = lit≤ tt; all = three.both.all; own = refl } in
      let one = reads_number start 0 15 end [] three.both.reads refl (omega arith) (lit< tt) (lit≤ tt) refl refl refl in
      stop_counted (to_stop (then one.journey (along
      (obeys 2 0 (A 15 end ∷ S 16 (131072 - (32 - end)) ∷ G_jumps 14 ∷ []) refl (omega arith))))
      (Z 14 Z_F refl refl) done) (omega arith)
  stops (n ∷ ns) end value factor words last three small least low done =
      let p = and_parts (nat_lt n 65536) (are_small ns) small in
      let l = and_parts (nat_le 32 n) (list_all (λ n. nat_le 32 n) ns) least in
      let orders = sum_by-cons conversion_orders n ns in
      let one = turn n value factor words last (number_rows (ns ++ end ∷ [])) three (leb-true 32 n l.0)
      (ltb-true n 65536 p.0) in
      stop_counted (stop_after (one.journey.leads done) refl
      (stops ns end (celsius n) (36409 * 2 ^ 18) one.after (Some 24) one.three p.1 l.1 low
      (done + conversion_orders n))) (omega arith)

celsius_small : (ns : List ℕ) → are_small ns ≡ true → are_small (map celsius ns) ≡ true
celsius_small [] h = refl
celsius_small (n ∷ ns) h =
    let p = and_parts (nat_lt n 65536) (are_small ns) h in
    let small = ltb-true n 65536 p.0 in and_from _ _ (lt-ltb (celsius n) 65536 (omega arith)) (celsius_small ns p.1)

module _ (ns : List ℕ) (end : ℕ) (small : are_small ns ≡ true) (least : list_all (λ n. nat_le 32 n) ns ≡ true)
    (low : end < 32) (fits : length (numbers_text (ns ++ end ∷ [])) ≤ 113) where
  -- the line with data
  abbrev marks : List (Marked false)
  marks = list_mark 26 (ns ++ end ∷ []) (lit≤ tt) (ended_some ns end) fits (ended_small ns end small (omega arith)) ∷ []

  abbrev texts : List Text
  texts = numbers_text (ns ++ end ∷ []) ∷ []

  abbrev lines : List Line
  lines = lines_of_pieces false celsius_pieces texts marks

  said : AreSaid false celsius_pieces texts marks
  unfolding settings parameter_store
  said = refl

  pub each_celsius : (s : Settings)
      → SourceRuns s (celsius_text ns end) (celsius_orders ns end) 71 (on_lines (map celsius ns))
  unfolding settings parameter_store
  each_celsius s =
      let z : Size = s.size in
      let many = few_numbers ns end in
      let few = few_codes (map celsius ns) in
      let same = length-map ns celsius in
      program_runs s false celsius_pieces texts marks said
      (stops_from_entry z lines refl 18 (lit≤ tt) (cells 0) refl refl (number_rows (ns ++ end ∷ []))
      (sym (append-nil (number_rows (ns ++ end ∷ []))))
      (stops z (moment_at (entry_state z lines)) ns end 0 (entry_state z lines).multiplier
      (entry_state z lines).store.words None
      (three_at_entry z lines 18 (lit≤ tt) 74 98 150 15 refl refl (lit≤ tt) (lit≤ tt) (lit≤ tt) (lit≤ tt)) small least
      low (entry_state z lines).orders))
      (omega arith) (omega arith) (list_shown (map celsius ns) (celsius_small ns small))
