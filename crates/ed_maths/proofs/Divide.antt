-- The routine `divide`, by its listing. Its long word at 38 is four times a number that begins as the dividend and ends
-- as the remainder and the quotient side by side.
use Rattle.ed_maths.proofs.Kit.{nat_tests, get_or-set_same, A_F, E_F, G_F, R_D, S_F, T_F, G_stays, R, T_top, followed}
use Rattle.ed_maths.proofs.Kit.{RD, Call, moment, [], arith, Bool, false, get_or, length, List, lit<, refl, set, suc}
use Rattle.ed_maths.proofs.Kit.{true, zero, ℕ, ◌%◌, ◌*◌, ◌+◌, ◌-◌, ◌/◌, ◌<◌, ◌^◌, ◌∷◌, ◌≡◌, ◌≤◌, locations_most, Moment}
use Rattle.ed_maths.proofs.Kit.{short, A, E_jumps, G_jumps, S, T, on, Path, stay, any, early, out, own, ones}
use Rattle.ed_routines.proofs.Kit.{L, U, LD}
use Rattle.std.proofs.Common.{nat_eq}
use Rattle.ed_words.specs.Words.{long_of_halves}
use Rattle.ed_words.specs.declared.order_words.TheConstants.{A_D, L_D, L_F, R_F, T_D, U_F}
use Rattle.ed_machine.proofs.Kit.Frames.{long}
use Rattle.ed_machine.proofs.Kit.Moves.{U_top, E_stays}
use Rattle.ed_machine.proofs.Kit.Places.{IsOutside, pair}
use Rattle.ed_machine.proofs.Kit.Shifts.{RF, LF, L2F}
use Rattle.ed_machine.proofs.Kit.Sums.{sum-parts}
use Rattle.ed_maths.proofs.Quotient.{bit, next, numbers, quotient, numbers-decided, quotient-small as small_quotient}
use Rattle.ed_maths.proofs.Quotient.{hit, hits, hits_ones}

-- a long word by its two cells and the digit between
pub record Long : Type 0 where
  pub even : ℕ
  pub odd : ℕ
  pub digit : Bool

abbrev pub parts : ℕ → Long
parts v = record { even = v % 2 ^ 17; odd = v / 2 ^ 18; digit = nat_eq (v / 2 ^ 17 % 2) 1 }

-- the words that change: the order that returns, the count of turns, what sets a digit of the quotient, the number,
-- and a spare word
pub record Work : Type 0 where
  pub at32 : ℕ
  pub at35 : ℕ
  pub at36 : Long
  pub at38 : Long
  pub at40 : ℕ

-- its words, and the sandwich digits of its two long words
abbrev pub cells : ℕ → ℕ → ℕ → ℕ → Work → List ℕ
cells b high low by w =
    114694 ∷ (T_F + 2 * (b + 32)) ∷ (A_F + 2 * (b + 33)) ∷ R_F ∷ R_D ∷ (T_D + 2 * (b + 36))
    ∷ (A_F + 2 * low) ∷ R_F ∷ R_D ∷ (A_F + 2 * high) ∷ (T_D + 2 * (b + 38)) ∷ (S_F + 2 * (b + 34))
    ∷ (U_F + 2 * (b + 35)) ∷ (T_F + 2 * (b + 40)) ∷ (A_D + 2 * (b + 38)) ∷ L_D ∷ (S_F + 2 * by)
    ∷ (E_F + 2 * (b + 20)) ∷ (A_F + 2 * by) ∷ (E_F + 2 * (b + 21)) ∷ (A_D + 2 * (b + 36))
    ∷ (T_D + 2 * (b + 38)) ∷ (A_F + 2 * (b + 35)) ∷ (A_F + 2 * (b + 33)) ∷ (U_F + 2 * (b + 35))
    ∷ (G_F + 2 * (b + 13)) ∷ (A_D + 2 * (b + 38)) ∷ (U_F + 2 * high) ∷ (S_F + 2 * high) ∷ L_F
    ∷ 102404 ∷ (T_F + 2 * low) ∷ w.at32 ∷ 1 ∷ 16 ∷ w.at35 ∷ w.at36.even ∷ w.at36.odd ∷ w.at38.even
    ∷ w.at38.odd ∷ w.at40 ∷ []

abbrev pub digits : Work → List Bool
digits w = w.at36.digit ∷ w.at38.digit ∷ []

-- the number at a location that holds a long word, by its parts
whole_long : (a v u : ℕ) → (a + v * 2 ^ 36) % 2 ^ 71 ≡ u
    → (a + long_of_halves (v / 2 ^ 18) (nat_eq (v / 2 ^ 17 % 2) 1) (v % 2 ^ 17) * 2 ^ 36) % 2 ^ 71 ≡ u
whole_long a v u e = rw (sum-parts v) e

-- a call of the routine, its three locations, and the words around it, with the halves h and l of the dividend and the
-- divisor d at these locations
pub record Given : Type 0 where
  pub call : Call 41 18
  pub even : call.frame.base % 2 ≡ 0
  pub high : ℕ
  pub low : ℕ
  pub by : ℕ
  pub ws : List ℕ
  pub d : ℕ
  pub h : ℕ
  pub l : ℕ
  pub is_high : get_or ws high 0 ≡ h
  pub is_low : get_or ws low 0 ≡ l
  pub is_by : get_or ws by 0 ≡ d
  pub positive : 1 ≤ d
  pub fits : d ≤ 32767
  pub small : l < 65536
  pub less : h < d
  pub all : length ws ≡ 1024
  pub at3 : get_or ws 3 0 ≡ 28676
  pub room : call.from + 3 ≤ call.frame.top
  pub inside : high < 1024
  pub away_high : IsOutside call.frame ws high
  pub away_low : IsOutside call.frame ws low
  pub away_by : IsOutside call.frame ws by
  pub away_then : (v : ℕ) → IsOutside call.frame (set ws high v) high
  pub away_last : (v : ℕ) → IsOutside call.frame (set ws high v) low

module _ (given : Given) where
  open given use {even, high, low, by, ws, d, h, l, is_high, is_low, is_by, positive, fits, small, less, all, at3, room}
  open given use {inside, away_high, away_low, away_by, away_then, away_last}
  open given use {call, call.{frame as f, behind, from as m}}

  abbrev pub run : List ℕ → Work → ℕ → ℕ → Moment
  run ws w acc i = record (moment call ws (cells f.base high low by w) 0 i) { pairs = digits w; acc = acc }

  -- in the loop: the count, and the long word at 38
  abbrev pub work : ℕ → ℕ → ℕ → Work
  work c v spare = record { at32 = E_F + 2 * (m + 2); at35 = c; at36 = parts 4; at38 = parts v; at40 = spare }

  -- a turn that subtracts the divisor, and one that doesn't
  turn_1 : {spare : ℕ} (c e x : ℕ) → 65536 * d ≤ 2 * x → x < 65536 * d → c < 2 ^ 17 → (c + 1) % 2 ^ 17 ≡ e
      → Path f 10 (run ws (work c (4 * x) spare) (short c) 13) []
      (run ws (work e (4 * (2 * x + 1 - 65536 * d)) c) (short e) 25)
  turn_1 c e x one under few is =
      let least = positive in let most = fits in let divisor = is_by in
      on (T 13 (own 40) c refl refl)
      (on (A 14 (pair 38 1 even) (long (4 * x)) refl (whole_long 0 (4 * x) (long (4 * x)) (omega arith)))
      (on (L 15 LD (long (8 * x)) refl (omega arith))
      (on (S 16 (out by away_by) (long (8 * x - d * 2 ^ 18)) refl (omega arith))
      (on (E_jumps 17 (own 20) refl (omega arith))
      (on (A 20 (pair 36 0 even) (long (4 * (2 * x + 1 - 65536 * d))) refl (omega arith))
      (on (T 21 (pair 38 1 even) (4 * (2 * x + 1 - 65536 * d)) refl refl)
      (on (A 22 (own 35) (short c) refl (omega arith))
      (on (A 23 (own 33) (short e) refl (omega arith))
      (on (U 24 (own 35) e refl refl) stay)))))))))

  turn_0 : {spare : ℕ} (c e x : ℕ) → 2 * x < 65536 * d → c < 2 ^ 17 → (c + 1) % 2 ^ 17 ≡ e
      → Path f 11 (run ws (work c (4 * x) spare) (short c) 13) [] (run ws (work e (4 * (2 * x)) c) (short e) 25)
  turn_0 c e x under few is =
      let least = positive in let most = fits in let divisor = is_by in
      on (T 13 (own 40) c refl refl)
      (on (A 14 (pair 38 1 even) (long (4 * x)) refl (whole_long 0 (4 * x) (long (4 * x)) (omega arith)))
      (on (L 15 LD (long (8 * x)) refl (omega arith))
      (on (S 16 (out by away_by) (long (8 * x + (2 ^ 35 - d * 2 ^ 18))) refl (omega arith))
      (on (E_stays 17 (own 20) refl (omega arith))
      (on (A 18 (out by away_by) (long (4 * (2 * x))) refl (omega arith))
      (on (E_jumps 19 (own 21) refl (omega arith))
      (on (T 21 (pair 38 1 even) (4 * (2 * x)) refl refl)
      (on (A 22 (own 35) (short c) refl (omega arith))
      (on (A 23 (own 33) (short e) refl (omega arith))
      (on (U 24 (own 35) e refl refl) stay))))))))))

  abbrev cost : Bool → ℕ
  cost true = 10
  cost false = 11

  turn : {spare : ℕ} (b : Bool) (c e x : ℕ) → bit d x ≡ b → x < 65536 * d → c < 2 ^ 17 → (c + 1) % 2 ^ 17 ≡ e
      → Path f (cost b) (run ws (work c (4 * x) spare) (short c) 13) []
      (run ws (work e (4 * next d b x) c) (short e) 25)
  turn true c e x t under few is = turn_1 c e x (grind (arith, nat_tests)) under few is
  turn false c e x t under few is = let h : 2 * x < 65536 * d = grind (arith, nat_tests) in turn_0 c e x h few is

  next_low : (b : Bool) (x : ℕ) → bit d x ≡ b → x < 65536 * d → next d b x < 65536 * d
  next_low true x t under = let h : 65536 * d ≤ 2 * x = grind (arith, nat_tests) in omega arith
  next_low false x t under = grind (arith, nat_tests)

  unfoldable costs : ℕ → ℕ → ℕ
  costs zero x = cost (bit d x) + 1
  costs (suc k) x = cost (bit d x) + (1 + costs k (next d (bit d x) x))

  loop : (k c x spare : ℕ) → c + suc k ≡ 2 ^ 17 → k < 16 → x < 65536 * d
      → Path f (costs k x) (run ws (work c (4 * x) spare) (short c) 13) []
      (run ws (work 0 (4 * numbers d k x) (2 ^ 17 - 1)) 0 26)
  unfolding numbers costs
  loop zero c x spare count few under =
      let e : c ≡ 2 ^ 17 - 1 = omega arith in
      rw e (followed (turn (bit d x) (2 ^ 17 - 1) 0 x refl under (lit< tt) refl)
      (on (G_stays 25 (own 13) refl (lit< tt)) stay))
  loop (suc k) c x spare count few under =
      followed (turn (bit d x) c (c + 1) x refl under (omega arith) (omega arith))
      (followed (on (G_jumps 25 (own 13) refl (omega arith)) stay)
      (loop k (c + 1) (next d (bit d x) x) c (omega arith) (omega arith) (next_low (bit d x) x refl under)))

  cost_is : (b : Bool) → cost b + hit b ≡ 11
  cost_is true = refl
  cost_is false = refl

  count : (k x : ℕ) → costs k x + hits d k x ≡ 12 * (k + 1)
  unfolding costs hits
  count zero x = let c = cost_is (bit d x) in omega arith
  count (suc k) x = let c = cost_is (bit d x) in let r = count k (next d (bit d x) x) in omega arith

  opened : (w : Work) → Path f 13 (run ws w (short (A_F + 2 * m)) 0) []
      (run ws (work (2 ^ 17 - 16) (4 * (65536 * h + l)) w.at40) (short (2 ^ 17 - 16)) 13)
  opened w =
      let b = locations_most f.size in
      let top = f.fits in
      let back = room in
      let third = at3 in
      let e_high = is_high in
      let e_low = is_low in
      let few = small in
      let smaller = less in
      let divisor = fits in
      on (A 0 (out 3 (early 3 behind (lit< tt) all)) (short (E_F + 2 * (m + 2))) refl (omega arith))
      (on (T 1 (own 32) _ refl refl)
      (on (A 2 (own 33) (long (2 ^ 18)) refl refl)
      (on (R 3 RF (long 8) refl (omega arith))
      (on (R 4 RD (long 4) refl (omega arith))
      (on (T 5 (pair 36 0 even) 4 refl refl)
      (on (A 6 (out low away_low) (short l) refl (omega arith))
      (on (R 7 RF (long (8 * l)) refl (omega arith))
      (on (R 8 RD (long (4 * l)) refl (omega arith))
      (on (A 9 (out high away_high) (long (4 * (65536 * h + l))) refl (omega arith))
      (on (T 10 (pair 38 1 even) (4 * (65536 * h + l)) refl refl)
      (on (S 11 (own 34) (short (2 ^ 17 - 16)) refl (omega arith))
      (on (U 12 (own 35) (2 ^ 17 - 16) refl refl) stay))))))))))))

  -- the number at 38 is the remainder and the quotient
  closed : (x q r spare : ℕ) → x ≡ 65536 * r + q → q < 65536 → r < 32768
      → Path f 7 (run ws (work 0 (4 * x) spare) 0 26) []
      (record (run (set (set ws high r) low q) (work 0 (4 * x) spare) 0 0) { counter = m + 2 })
  closed x q r spare is fits_q fits_r =
      let there : m + 2 < f.top = omega (arith, room) in
      let divisor = fits in
      let now : get_or (set ws high r) high 0 ≡ r = get_or-set_same ws high r 0 (omega (arith, all, inside)) in
      on (A 26 (pair 38 1 even) (long (4 * x)) refl (whole_long 0 (4 * x) (long (4 * x)) (omega arith)))
      (on (U_top 27 (out high away_high) r refl (omega arith))
      (on (S 28 (out high (away_then r)) (long (4 * q)) refl (omega arith))
      (on (L 29 LF (long (2 ^ 15 * q)) refl (omega arith))
      (on (L 30 L2F (long (2 ^ 18 * q)) refl (omega arith))
      (on (T_top 31 (out low (away_last r)) q refl (omega arith))
      (on (E_jumps 32 (any (m + 2) there) refl (lit< tt)) stay))))))

  abbrev n : ℕ
  n = 65536 * h + l

  pub Path-whole : (w : Work) (k : ℕ) → k + ones 16 (n / d) ≡ 212
      → Path f k (run ws w (short (A_F + 2 * m)) 0) []
      (record (run (set (set ws high (n % d)) low (n / d)) (work 0 (4 * numbers d 15 n) (2 ^ 17 - 1)) 0 0)
      { counter = m + 2 })
  unfolding ones
  Path-whole w k total =
      let e : 65536 * d - 1 + 1 ≡ 65536 * d = omega (arith, positive) in
      let few = small in
      let smaller = less in
      let divisor = fits in
      let one = positive in
      let r = numbers-decided d (65536 * d - 1) e n (quotient d 15 0 n) refl (omega arith) positive in
      let fits_q : n / d < 65536 = rw r.0 (small_quotient d (65536 * d - 1) e n) in
      let sum : numbers d 15 n ≡ 65536 * (n % d) + n / d = rw r.0 (r.1) in
      let fits_r : n % d < 32768 = omega (arith, r.2) in
      let o : ones 16 (n / d) ≡ 0 + hits d 15 n = rw r.0 (hits_ones d 15 0 0 n) in
      let c = count 15 n in
      let s : k ≡ 13 + (costs 15 n + 7) = omega arith in
      rw s (followed (opened w)
      (followed (loop 15 (2 ^ 17 - 16) n w.at40 refl (lit< tt) (omega arith))
      (closed (numbers d 15 n) (n / d) (n % d) (2 ^ 17 - 1) sum fits_q fits_r)))
