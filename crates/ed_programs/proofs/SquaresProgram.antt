-- The program of `examples/squares.tape1`: a loop that counts the tens of a square, in a loop over the squares.
use Rattle.ed_programs.proofs.Kit.{before_order, A_F, E_F, G_F, O_F, S_F, T_F, Z_F, Full, Z, L512F, along, to_stop}
use Rattle.ed_programs.proofs.Kit.{followed, [], arith, List, lit≤, Option, refl, Some, suc, zero, ℕ, ◌%◌, ◌*◌, ◌+◌}
use Rattle.ed_programs.proofs.Kit.{◌-◌, ◌/◌, ◌<◌, ◌∷◌, ◌≡◌, ◌≤◌, Frame, Moment, state, Path, ReachesStop}
use Rattle.std.proofs.lemmas.Nat.{mul-le}
use Rattle.ed_machine.proofs.Kit.Loops.{printed, quiet_rounds, varying}
use Rattle.ed_programs.proofs.Orders.{A, E_jumps, G_jumps, G_stays, L, O, S, T, obeys}

-- the cells that change
pub record Work : Type 0 where
  pub scrap : ℕ
  pub square : ℕ
  pub odd : ℕ
  pub tens : ℕ
  pub left : ℕ
  pub units : ℕ

-- its words from 31 upwards, and location 74, which its first order clears
abbrev pub cells : Work → List ℕ
cells k =
    (T_F + 2 * 74) ∷ (O_F + 2 * 61) ∷ (T_F + 2 * 62) ∷ (A_F + 2 * 63) ∷ (A_F + 2 * 64) ∷ (T_F + 2 * 63)
    ∷ (A_F + 2 * 64) ∷ (A_F + 2 * 65) ∷ (T_F + 2 * 64) ∷ (T_F + 2 * 69) ∷ (A_F + 2 * 63)
    ∷ (S_F + 2 * 66) ∷ (G_F + 2 * 50) ∷ (T_F + 2 * 70) ∷ (A_F + 2 * 69) ∷ (A_F + 2 * 68)
    ∷ (T_F + 2 * 69) ∷ (A_F + 2 * 70) ∷ (E_F + 2 * 42) ∷ (A_F + 2 * 66) ∷ 103424 ∷ (T_F + 2 * 71)
    ∷ (O_F + 2 * 69) ∷ (O_F + 2 * 71) ∷ (O_F + 2 * 72) ∷ (O_F + 2 * 73) ∷ (A_F + 2 * 63)
    ∷ (S_F + 2 * 67) ∷ (G_F + 2 * 33) ∷ Z_F ∷ 45056 ∷ k.scrap ∷ k.square ∷ k.odd ∷ 4 ∷ 20 ∷ 162 ∷ 4096
    ∷ k.tens ∷ k.left ∷ k.units ∷ 73728 ∷ 98304 ∷ 0 ∷ []

abbrev pub frame : Frame 44 0
frame = record { size = Full; base = 31; top = 1024; under = lit≤ tt; fits = lit≤ tt }

-- what is left of n after j tens were subtracted, and what the cell for it then holds
abbrev pub without : ℕ → ℕ → ℕ
without n j = n - 10 * j

abbrev pub left_after : ℕ → ℕ → ℕ → ℕ
left_after old n zero = old
left_after old n (suc j) = 2 * without n (suc j)

-- the accumulator's number at the test for 81
abbrev pub compared : ℕ → ℕ
compared n = (130910 + 2 * n) % 131072

-- the cells after j tens of the square n; v is the accumulator's number before, and e is the next odd number
abbrev pub counting : Work → ℕ → ℕ → ℕ → ℕ → Work
counting k v n e j = record {
  scrap = v;
  square = 2 * n;
  odd = 2 * e;
  tens = 4096 * j;
  left = left_after k.left n j;
  units = k.units;
}

-- and after its units
abbrev pub after : Work → ℕ → ℕ → ℕ → Work
after k v n e = record (counting k v n e (n / 10)) { units = 4096 * (n % 10) }

-- the codes of a square: two figures, carriage return, line feed
abbrev pub figures : ℕ → List ℕ
figures n = n / 10 ∷ n % 10 ∷ 18 ∷ 24 ∷ []

-- ---- a turn of the loop over the squares

-- `around` has what doesn't change during the program
module _ (around : Moment) where
  abbrev pub at : ℕ → ℕ → Work → Option ℕ → Moment
  at i v k last = record (before_order around (31 + i) v (cells k)) { last = last }

  -- one square n: the last one, q, and the odd number d; the next odd number is e
  module _ (k : Work) (v q d n e : ℕ) (last : Option ℕ) (sum : q + d ≡ n) (next : d + 2 ≡ e) (few : n ≤ 81)
      (small : d ≤ 17) where
    -- one more ten
    ten : (j : ℕ) → j < n / 10
        → Path frame 8 (at 11 (2 * without n j) (counting k v n e j) last) []
        (at 11 (2 * without n (suc j)) (counting k v n e (suc j)) last)
    ten j less =
        obeys 11 (2 * without n j) (S 35 (2 * without n (suc j)) ∷ G_stays 19 ∷ T 39 ∷ A 38 (4096 * j)
        ∷ A 37 (4096 * suc j) ∷ T 38 ∷ A 39 (2 * without n (suc j)) ∷ E_jumps 11 ∷ []) refl (omega arith)

    -- the square and the odd number after it; then the tens; what is left are the units, and both figures are printed
    prints_square : Path frame (9 + (n / 10 * 8 + 11)) (at 2 v (record k { square = 2 * q; odd = 2 * d }) last)
        (figures n) (at 28 (compared n) (after k v n e) (Some 24))
    prints_square =
        followed (obeys 2 v (T 31 ∷ A 32 (2 * q) ∷ A 33 (2 * n) ∷ T 32 ∷ A 33 (2 * d) ∷ A 34 (2 * e) ∷ T 33 ∷ T 38
        ∷ A 32 (2 * without n 0) ∷ []) refl (omega arith))
        (followed (quiet_rounds (λ j. at 11 (2 * without n j) (counting k v n e j) last) (n / 10) ten)
        (obeys 11 (2 * without n (n / 10)) (S 35 (131052 + 2 * (n % 10)) ∷ G_jumps 19 ∷ A 35 (2 * (n % 10))
        ∷ L L512F (4096 * (n % 10)) ∷ T 40 ∷ O 38 (n / 10) ∷ O 40 (n % 10) ∷ O 41 18 ∷ O 42 24 ∷ A 32 (2 * n)
        ∷ S 36 (compared n) ∷ []) refl (omega arith)))

  -- ---- the loop over the squares: turn i goes from the square of i to the next one

  abbrev pub square_after : ℕ → ℕ
  square_after i = suc i * suc i

  abbrev pub number : ℕ → ℕ
  number zero = 0
  number (suc i) = compared (square_after i)

  abbrev pub last_code : ℕ → Option ℕ
  last_code zero = Some 11
  last_code (suc i) = Some 24

  -- as it is loaded, and after i turns
  abbrev pub loaded : Work
  loaded = record { scrap = 0; square = 0; odd = 2; tens = 0; left = 0; units = 0 }

  abbrev pub work : ℕ → Work
  work zero = loaded
  work (suc i) = after (work i) (number i) (square_after i) (2 * suc i + 1)

  abbrev pub before : ℕ → Moment
  before i = at 2 (number i) (record (work i) { square = 2 * (i * i); odd = 2 * (2 * i + 1) }) (last_code i)

  next_square : (i : ℕ) → i * i + (2 * i + 1) ≡ square_after i
  next_square i = omega arith

  -- the orders of a turn
  abbrev pub turn_orders : ℕ → ℕ
  turn_orders i = 9 + (square_after i / 10 * 8 + 11) + 1

  turn : (i : ℕ) → i < 8 → Path frame (turn_orders i) (before i) (figures (square_after i)) (before (suc i))
  turn i less =
      let few : square_after i ≤ 8 * 8 = mul-le (suc i) (suc i) 8 8 (omega arith) (omega arith) in
      followed
      (prints_square (work i) (number i) (i * i) (2 * i + 1) (square_after i) (2 * suc i + 1) (last_code i)
      (next_square i) (omega arith) (omega (arith, few)) (omega arith))
      (obeys 28 (compared (square_after i)) (G_jumps 2 ∷ []) refl (omega (arith, few)))

  last_turn : Path frame (turn_orders 8) (before 8) (figures 81) (at 29 0 (work 9) (Some 24))
  last_turn =
      followed
      (prints_square (work 8) (number 8) 64 17 81 19 (Some 24) refl refl (lit≤ tt) (lit≤ tt))
      (obeys 28 (compared 81) (G_stays 2 ∷ []) refl (omega arith))

  -- ---- from the entry to the stop

  abbrev pub entering : Moment
  entering = at 0 0 loaded around.last

  begins : Path frame 2 entering (11 ∷ []) (before 0)
  begins = obeys 0 0 (T 43 ∷ O 30 11 ∷ []) refl (omega arith)

  -- figure shift, and nine squares
  abbrev pub all_codes : List ℕ
  all_codes = 11 ∷ printed (λ i. figures (square_after i)) 9

  whole : Path frame 383 entering all_codes (at 29 0 (work 9) (Some 24))
  whole = followed begins (followed (varying turn_orders before (λ i. figures (square_after i)) 8 turn) last_turn)

  pub squares_stop : (done : ℕ) → ReachesStop 383 (state frame entering done) all_codes 61
  squares_stop done = to_stop (along whole) (Z 29 Z_F refl refl) done
