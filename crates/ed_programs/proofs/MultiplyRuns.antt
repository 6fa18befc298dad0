-- The source of `examples/answer5.edsac` for any numbers: its path, and what it prints.
use Rattle.ed_programs.proofs.Kit.{along, parameter_store, routine_after, stops_from_entry, Z, print_orders}
use Rattle.ed_programs.proofs.Kit.{ReachesStop, shows_number, Path-counted, stop_counted, all_words, moment_at, []}
use Rattle.ed_programs.proofs.Kit.{HasRoutine, entry_state, SourceRuns, Settings, Journey, to_stop, followed, frame_at}
use Rattle.ed_programs.proofs.Kit.{settings, decimal, length, Moment, newline, with_h, digits, Marked}
use Rattle.ed_programs.proofs.Kit.{calling, Z_F, Size, Line, IsIn, arith, codes, subst, Frame, short, state, print}
use Rattle.ed_programs.proofs.Kit.{then, List, lit<, lit≤, refl, Some, true, zero, ◌++◌, Text, Path, stay, link, map}
use Rattle.ed_programs.proofs.Kit.{suc, ℕ, ◌*◌, ◌+◌, ◌<◌, ◌∷◌, ◌≡◌, ◌≤◌, to}
use Rattle.ed_programs.specs.Multiply.{multiply_orders, multiply_prints, multiply_text}
use Rattle.ed_programs.specs.declared.multiply.TheConstants.{MULTIPLY}
use Rattle.ed_programs.proofs.NumberLines.{word_mark}
use Rattle.ed_programs.proofs.NumberShown.{then_on}
use Rattle.ed_programs.proofs.NumberLists.{few_codes, list_codes, list_shown}
use Rattle.ed_programs.proofs.DataLines.{small_too}
use Rattle.ed_programs.proofs.SourceRuns.{AreSaid, lines_of_pieces, program_runs}
use Rattle.ed_programs.proofs.Orders.{A, A_low, E_by, E_jumps, G_jumps, G_stays, S, T, U, obeys}

-- the pieces of the source, and the numbers between them: a and b are multiplied, and c is squared
abbrev multiply_pieces : List Text
multiply_pieces = map (λ piece. piece.now) MULTIPLY

abbrev multiply_data : ℕ → ℕ → ℕ → List Text
multiply_data a b c = decimal c ∷ decimal a ∷ decimal b ∷ []

-- its words, with the cells that change: the numbers, the product, the spare cell and the links
abbrev pub cells : ℕ → ℕ → ℕ → ℕ → ℕ → ℕ → ℕ → List ℕ
cells c l r p s k h =
    to 28 0 ∷ to 27 13 ∷ to 28 2 ∷ to 27 32 ∷ to 28 12 ∷ to 7 27 ∷ to 5 28 ∷ to 28 7 ∷ to 27 13 ∷ to 28 9 ∷ to 27 32
    ∷ Z_F ∷ c ∷ 114694 ∷ to 5 26 ∷ to 5 29 ∷ to 5 31 ∷ to 28 27 ∷ to 12 30 ∷ to 27 25 ∷ to 5 27 ∷ to 28 29
    ∷ to 28 28 ∷ to 5 29 ∷ to 3 16 ∷ to 5 31 ∷ k ∷ l ∷ r ∷ p ∷ 1 ∷ s ∷ 114694 ∷ to 5 38 ∷ to 28 34
    ∷ calling 96 ∷ to 28 36 ∷ calling 148 ∷ h ∷ 0 ∷ []

module _ (z : Size) (c : ℕ) where
  abbrev f : Frame 40 0
  f = frame_at 40 z (lit≤ tt)

  -- what it needs around it: the routines, and location 3
  record IsAround (m : Moment) : Type 0 where
    all : length m.words ≡ 1024
    prints : HasRoutine f m.words print 96 (with_h 85)
    lines : HasRoutine f m.words newline 148 []

  abbrev at : Moment → ℕ → ℕ → ℕ → ℕ → ℕ → ℕ → ℕ → ℕ → Moment
  at m i v l r p s k h = record m { cells = cells c l r p s k h; pairs = []; acc = short v; counter = 56 + i }

  module _ (m : Moment) (o : IsAround m) (j r : ℕ) (low : j + 3 ≤ 40) where
    -- the loop of `times`: the one factor is counted down to 0, and each time the other is added to what there is
    loop : (l p q k h : ℕ) → p + l * r ≡ q → l < 65536 → q < 65536
        → Path f (l * 9) (at m 17 0 l r p 0 k h) [] (at m 17 0 0 r q 0 k h)
    loop zero p q k h e few small =
        Path-counted (subst (λ x. Path f 0 (at m 17 0 0 r p 0 k h) [] (at m 17 0 0 r x 0 k h)) (omega arith) stay)
        (omega arith)
    loop (suc l) p q k h e few small =
        let sum : suc l * r ≡ r + l * r = omega arith in
        Path-counted (followed (obeys 17 0 (A 27 (suc l) ∷ S 30 l ∷ G_stays 25 ∷ T 27 ∷ A 29 p ∷ A 28 (p + r) ∷ T 29
        ∷ E_jumps 16 ∷ T 31 ∷ []) refl (omega arith))
        (loop l (p + r) q k h (omega arith) (omega arith) small)) (omega arith)

    -- `times`, called from cell j
    times : (l p s k h : ℕ) → l < 65536 → l * r < 65536
        → Path f (9 * l + 9) (at m 13 (to 28 j) l r p s k h) [] (at m (j + 2) 0 0 r (l * r) 131071 (link j) h)
    times l p s k h few small =
        let third = o.prints.at3 in let all = o.all in
        Path-counted (followed (obeys 13 (to 28 j) (A_low 3 (link j) ∷ T 26 ∷ T 29 ∷ T 31 ∷ []) refl (omega arith))
        (followed (loop l 0 (l * r) (link j) h (omega arith) few small)
        (obeys 17 0 (A 27 0 ∷ S 30 131071 ∷ G_jumps 25 ∷ T 31 ∷ E_by (j + 2) ∷ []) refl (omega arith)))) (omega arith)

    -- `show`, called from cell j: what it prints, and what is around the program after it
    record Shown (l p s k h : ℕ) : Type 0 where
      after : Moment
      is : IsAround after
      journey : Journey f (2 + ((9 + print_orders p) + 1)) (at m 32 (to 28 j) l r p s k h)
          (11 ∷ digits p ++ 18 ∷ 24 ∷ []) (at after (j + 2) 0 l r p s k (link j))

    show : (l p s k h : ℕ) → p < 65536 → Shown l p s k h
    show l p s k h small =
        let third = o.prints.at3 in let all = o.all in
        let called : IsIn f (at m 34 0 l r p s k (link j)) = record { above = lit≤ tt; all = all; own = refl } in
        let shown = shows_number called 34 29 p o.prints o.lines (lit≤ tt) refl small (lit< tt) (lit≤ tt) refl refl
        refl refl refl in
        record {
          after = record m { words = shown.words; last = Some 24 };
          is = record { all = shown.still_in.all; prints = shown.prints; lines = shown.lines };
          journey = then
              (along (obeys 32 (to 28 j) (A_low 3 (link j) ∷ T 38 ∷ []) refl (omega arith)))
              (then_on shown.journey (obeys 38 0 (E_by (j + 2) ∷ []) refl (omega arith)));
        }

  -- both calls of each, to the stop
  stops : (m : Moment) (o : IsAround m) (a b : ℕ) → a < 65536 → a * b < 65536 → c < 65536 → c * c < 65536 → (done : ℕ)
      → ReachesStop (9 * a + 9 * c + print_orders (a * b) + print_orders (c * c) + 53)
      (state f (at m 0 0 a b 0 0 0 0) done) (list_codes (a * b ∷ c * c ∷ [])) 68
  stops m o a b few small few_c small_c done =
      let one = show m o 2 b (lit≤ tt) 0 (a * b) 131071 (link 0) 0 small in
      let now : Moment = one.after in
      let two = show now one.is 9 c (lit≤ tt) 0 (c * c) 131071 (link 7) (link 2) small_c in
      stop_counted (to_stop
      (then (along (followed (obeys 0 0 (A 0 (to 28 0) ∷ G_jumps 13 ∷ []) refl (omega arith))
      (followed (times m o 0 b (lit≤ tt) a 0 0 0 0 few small)
      (obeys 2 0 (A 2 (to 28 2) ∷ G_jumps 32 ∷ []) refl (omega arith)))))
      (then one.journey
      (then (along (followed (obeys 4 0 (A 12 c ∷ U 27 ∷ T 28 ∷ A 7 (to 28 7) ∷ G_jumps 13 ∷ []) refl (omega arith))
      (followed (times now one.is 7 c (lit≤ tt) c (a * b) 131071 (link 0) (link 2) few_c small_c)
      (obeys 9 0 (A 9 (to 28 9) ∷ G_jumps 32 ∷ []) refl (omega arith)))))
      (then two.journey (along stay)))))
      (Z 11 Z_F refl refl) done) (omega arith)

module _ (a b c : ℕ) (few : a < 65536) (also : b < 65536) (small : a * b < 65536) (few_c : c < 65536)
    (small_c : c * c < 65536) where
  -- the lines with data
  abbrev marks : List (Marked true)
  marks =
      word_mark 17 c few_c (codes "_twelve") (lit≤ tt) refl ∷ word_mark 33 a few (codes "left") (lit≤ tt) refl
      ∷ word_mark 34 b also (codes "right") (lit≤ tt) refl ∷ []

  abbrev lines : List Line
  lines = lines_of_pieces true multiply_pieces (multiply_data a b c) marks

  said : AreSaid true multiply_pieces (multiply_data a b c) marks
  unfolding settings parameter_store
  said = refl

  pub each_product : (s : Settings) → SourceRuns s (multiply_text a b c) (multiply_orders a b c) 68
      (multiply_prints a b c)
  unfolding settings parameter_store
  each_product s =
      let z : Size = s.size in
      let o : IsAround z c (moment_at (entry_state z lines)) = record {
        all = all_words z lines;
        prints = routine_after z lines refl (lit≤ tt) print 96 (with_h 85) refl (lit≤ tt) (lit≤ tt) (lit≤ tt);
        lines = routine_after z lines refl (lit≤ tt) newline 148 [] refl (lit≤ tt) (lit≤ tt) (lit≤ tt);
      } in
      let shown = list_shown (a * b ∷ c * c ∷ [])
      (small_too (a * b) (c * c ∷ []) small (small_too (c * c) [] small_c refl)) in
      program_runs s true multiply_pieces (multiply_data a b c) marks said
      (stops_from_entry z lines refl 40 (lit≤ tt) (cells c a b 0 0 0 0) refl refl [] refl
      (stops z c (moment_at (entry_state z lines)) o a b few small few_c small_c (entry_state z lines).orders))
      (omega (arith, few_codes (a * b ∷ c * c ∷ []))) (omega arith) shown
