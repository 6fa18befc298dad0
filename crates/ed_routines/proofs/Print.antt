-- The routine `print`, by its listing.
use Rattle.ed_routines.proofs.Kit.{A_F, E_F, L_D, S_F, T_F, U_F, Moment, short, A, E_jumps, G_jumps, L, S, T, U, on}
use Rattle.ed_routines.proofs.Kit.{prints, stay, any, early, out, own, LD, begun, flag_of, spared, [], ap, arith, Bool}
use Rattle.ed_routines.proofs.Kit.{false, get_or, length, List, lit<, nat_lt, Option, refl, Some, suc, true, zero, ℕ}
use Rattle.ed_routines.proofs.Kit.{◌%◌, ◌*◌, ◌++◌, ◌+◌, ◌-◌, ◌/◌, ◌<◌, ◌^◌, ◌∷◌, ◌≡◌, ◌≤◌, locations_most, lit≤, le-ltb}
use Rattle.ed_routines.proofs.Kit.{lt-ltb, sum, without_zeros}
use Rattle.ed_words.specs.declared.order_words.TheConstants.{G_F, O_F, V_F}
use Rattle.ed_machine.proofs.Kit.Moves.{O, G_stays}
use Rattle.ed_machine.proofs.Kit.Orders.{there_is}
use Rattle.ed_machine.proofs.Kit.Places.{IsOutside}
use Rattle.ed_machine.proofs.Kit.Shifts.{L512F}
use Rattle.ed_machine.proofs.Kit.Zeros.{shown, last_of}
use Rattle.ed_routines.proofs.Called.{Call, moment}
use Rattle.ed_routines.proofs.Digits.{tens}
use Rattle.ed_routines.proofs.Walks.{Walk, Weights, walked, walked_away}

-- the cells that change: the order that subtracts a power, the one that returns, what is left of the number, whether a
-- digit was printed, the digit, and a spare cell
pub record Work : Type 0 where
  pub at11 : ℕ
  pub at38 : ℕ
  pub at47 : ℕ
  pub at48 : ℕ
  pub at49 : ℕ
  pub at50 : ℕ

-- its words
abbrev pub cells : ℕ → ℕ → Work → List ℕ
cells b h w =
    114694 ∷ (T_F + 2 * (b + 38)) ∷ (O_F + 2 * (b + 39)) ∷ (A_F + 2 * h) ∷ (T_F + 2 * (b + 47))
    ∷ (T_F + 2 * (b + 48)) ∷ (A_F + 2 * (b + 41)) ∷ (T_F + 2 * (b + 11)) ∷ (T_F + 2 * (b + 50))
    ∷ (T_F + 2 * (b + 49)) ∷ (A_F + 2 * (b + 47)) ∷ w.at11 ∷ (G_F + 2 * (b + 18))
    ∷ (T_F + 2 * (b + 47)) ∷ (A_F + 2 * (b + 49)) ∷ (A_F + 2 * (b + 40)) ∷ (T_F + 2 * (b + 49))
    ∷ (E_F + 2 * (b + 10)) ∷ (T_F + 2 * (b + 50)) ∷ (A_F + 2 * (b + 49)) ∷ (A_F + 2 * (b + 48))
    ∷ (S_F + 2 * (b + 40)) ∷ (G_F + 2 * (b + 27)) ∷ (O_F + 2 * (b + 49)) ∷ (T_F + 2 * (b + 50))
    ∷ (A_F + 2 * (b + 40)) ∷ (T_F + 2 * (b + 48)) ∷ (T_F + 2 * (b + 50)) ∷ (A_F + 2 * (b + 11))
    ∷ 114692 ∷ (U_F + 2 * (b + 11)) ∷ (S_F + 2 * (b + 42)) ∷ (G_F + 2 * (b + 8))
    ∷ (A_F + 2 * (b + 47)) ∷ 103424 ∷ L_D ∷ (T_F + 2 * (b + 49)) ∷ (O_F + 2 * (b + 49)) ∷ w.at38
    ∷ 45056 ∷ 4096 ∷ (S_F + 2 * (b + 43)) ∷ (S_F + 2 * (b + 47)) ∷ 10000 ∷ 1000 ∷ 100 ∷ 10 ∷ w.at47 ∷ w.at48
    ∷ w.at49 ∷ w.at50 ∷ []

-- digits without leading zeros, with the units
abbrev pub spelled : Bool → List ℕ → ℕ → List ℕ
spelled b [] units = units ∷ []
spelled b (q ∷ qs) units = shown b q ++ spelled (begun b q) qs units

abbrev pub shows : Bool → List ℕ → ℕ
shows b [] = 0
shows b (q ∷ qs) = length (shown b q) + shows (begun b q) qs

-- they are what the definition of the digits has
spelled_all : (qs : List ℕ) (units : ℕ) → spelled true qs units ≡ qs ++ units ∷ []
spelled_all [] units = refl
spelled_all (q ∷ qs) units = ap (λ x. q ∷ x) (spelled_all qs units)

pub spelled_is : (qs : List ℕ) (units : ℕ) → spelled false qs units ≡ without_zeros qs ++ units ∷ []
spelled_is [] units = refl
spelled_is (zero ∷ qs) units = spelled_is qs units
spelled_is (suc q ∷ qs) units = ap (λ x. suc q ∷ x) (spelled_all qs units)

shows_all : (qs : List ℕ) → shows true qs ≡ length qs
shows_all [] = refl
shows_all (q ∷ qs) = let e = shows_all qs in omega (arith, e)

pub shows_is : (qs : List ℕ) → shows false qs ≡ length (without_zeros qs)
shows_is [] = refl
shows_is (zero ∷ qs) = let e = shows_is qs in omega (arith, e)
shows_is (suc q ∷ qs) = let e = shows_all qs in omega (arith, e)

pub sum_is : (qs : List ℕ) → sum qs ≡ sum (without_zeros qs)
sum_is [] = refl
sum_is (zero ∷ qs) = let e = sum_is qs in omega (arith, e)
sum_is (suc q ∷ qs) = refl

-- the number of orders that a digit before the units takes
abbrev pub digit_orders : Bool → ℕ → ℕ
digit_orders b q = 15 + 8 * q + 4 * length (shown b q)

-- whether a digit was printed before the tens
abbrev pub before_tens : ℕ → Bool
before_tens n = begun (begun (begun false (n / 10000)) (n / 1000 % 10)) (n / 100 % 10)

-- the weights of the orders that subtract a power once, of those that print a digit or pass over one, and of all for a
-- digit before the units
abbrev pub once_weight : Weights → ℕ
once_weight w = 6 * w.plain + w.passed_G + w.taken

abbrev pub shown_weight : Weights → Bool → ℕ → ℕ
shown_weight w false zero = 4 * w.plain + w.taken
shown_weight w false (suc q) = 8 * w.plain + w.passed_G
shown_weight w true q = 8 * w.plain + w.passed_G

abbrev pub digit_weight : Weights → Bool → ℕ → ℕ
digit_weight w b q =
    2 * w.plain + (q * once_weight w + (2 * w.plain + w.taken + (shown_weight w b q + 5 * w.plain)))

-- and those of the whole routine
abbrev pub print_weight : Weights → ℕ → ℕ
print_weight w n =
    let b1 = begun false (n / 10000) in
    let b2 = begun b1 (n / 1000 % 10) in
    8 * w.plain
    + (digit_weight w false (n / 10000)
    + (w.taken + (digit_weight w b1 (n / 1000 % 10)
    + (w.taken + (digit_weight w b2 (n / 100 % 10)
    + (w.taken + (digit_weight w (before_tens n) (n / 10 % 10)
    + (w.passed_G + 3 * w.plain + 2 * w.middle + w.taken))))))))

eight : (p : ℕ) → p + (p + (p + (p + (p + (p + (p + (p + 0))))))) ≡ 8 * p
eight p = omega arith

-- a call of the routine, the location of the number, and the words around the routine
pub record Given : Type 0 where
  pub call : Call 51 0
  pub h : ℕ
  pub ws : List ℕ
  pub all : length ws ≡ 1024
  pub at2 : get_or ws 2 0 ≡ 2
  pub at3 : get_or ws 3 0 ≡ 28676
  pub room : call.from + 3 ≤ call.frame.top
  pub away : IsOutside call.frame ws h

module _ (given : Given) where
  open given use {h, ws, all, at2, at3, room, away, call, call.{frame as f, behind, from as m}}

  abbrev pub run : Work → ℕ → ℕ → Option ℕ → Moment
  run w v i last = record (moment call ws (cells f.base h w) v i) { last = last }

  -- with the power at cell j
  abbrev pub at : ℕ → ℕ → ℕ → ℕ → ℕ → ℕ → ℕ → Option ℕ → Moment
  at j rest flag count spare v i last =
      run (record {
        at11 = S_F + 2 * (f.base + j);
        at38 = E_F + 2 * (m + 2);
        at47 = rest;
        at48 = flag;
        at49 = count;
        at50 = spare;
      }) v i last

  -- what the test for the next power leaves, after the power at cell j
  abbrev pub tested : ℕ → ℕ
  tested j = (2 * j + 2 + (2 ^ 17 - 94)) % 2 ^ 17

  -- the power p is in cell j; the tests for it and for the next power leave these numbers
  record Power (j p before after : ℕ) : Type 0 where
    holds : (w : Work) → get_or (cells f.base h w) j 0 ≡ p
    own : nat_lt j 51 ≡ true
    most : p ≤ 10000
    inside : j < 47
    low : before < 2 ^ 17
    next_is : tested j ≡ after

  module _ (w : Weights) where
    -- the power is subtracted once
    subtract : {j p before after flag spare : ℕ} {last : Option ℕ} → Power j p before after → (u d : ℕ)
        → u + p < 2 ^ 16 → d < 9
        → Walk w f 8 (once_weight w) (at j (u + p) flag (4096 * d) spare 0 10 last) []
        (at j u flag (4096 * (d + 1)) spare 0 10 last)
    subtract {j} {p} o u d low few =
        let most = o.most in
        let positive : nat_lt (short u) (2 ^ 70) ≡ true = lt-ltb (short u) (2 ^ 70) (omega arith) in
        record {
          path =
              on (A 10 (own 47) (short (u + p)) refl (omega arith))
              (on (S 11 (own j) (short u) (there_is o.own) (rw (o.holds _) (omega arith)))
              (on (G_stays 12 (own 18) refl (omega arith))
              (on (T 13 (own 47) _ refl refl)
              (on (A 14 (own 49) (short (4096 * d)) refl (omega arith))
              (on (A 15 (own 40) (short (4096 * (d + 1))) refl (omega arith))
              (on (T 16 (own 49) _ refl refl)
              (on (E_jumps 17 (own 10) refl (lit< tt)) stay)))))));
          weighs = rw positive (omega arith);
        }

    -- the next power
    next : {j p before after rest flag count spare : ℕ} {last : Option ℕ} (v : ℕ) → Power j p before after → v < 2 ^ 17
        → Walk w f 5 (5 * w.plain) (at j rest flag count spare v 27 last) []
        (at (j + 1) rest flag count v after 32 last)
    next {j} {after = after} v o low =
        let b = locations_most f.size in let fits = f.fits in let is = o.next_is in let inside = o.inside in
        let second = at2 in
        record {
          path =
              on (T 27 (own 50) _ refl refl)
              (on (A 28 (own 11) (short (S_F + 2 * (f.base + j))) refl (omega arith))
              (on (A 29 (out 2 (early 2 behind (lit< tt) all)) (short (S_F + 2 * (f.base + (j + 1)))) refl
              (omega arith))
              (on (U 30 (own 11) _ refl refl)
              (on (S 31 (own 42) (short after) refl (omega arith)) stay))));
          weighs = omega arith;
        }

    -- a digit that is printed, and one that isn't
    print_digit : {rest spare : ℕ} {last : Option ℕ} (j q flag v : ℕ) → q ≤ 9 → flag ≤ 4096 → 4096 ≤ 4096 * q + flag
        → v < 2 ^ 17
        → Walk w f 9 (8 * w.plain + w.passed_G) (at j rest flag (4096 * q) spare v 18 last) (q ∷ [])
        (at j rest 4096 (4096 * q) (4096 * q + flag - 4096) 0 27 (Some q))
    print_digit j q flag v few low some fits =
        let positive : nat_lt (short (4096 * q + flag - 4096)) (2 ^ 70) ≡ true =
        lt-ltb (short (4096 * q + flag - 4096)) (2 ^ 70) (omega arith) in
        record {
          path =
              on (T 18 (own 50) _ refl refl)
              (on (A 19 (own 49) (short (4096 * q)) refl (omega arith))
              (on (A 20 (own 48) (short (4096 * q + flag)) refl (omega arith))
              (on (S 21 (own 40) (short (4096 * q + flag - 4096)) refl (omega arith))
              (on (G_stays 22 (own 27) refl (omega arith))
              (prints (O 23 (own 49) q refl (omega arith))
              (on (T 24 (own 50) _ refl refl)
              (on (A 25 (own 40) (short 4096) refl refl)
              (on (T 26 (own 48) _ refl refl) stay))))))));
          weighs = rw positive (omega arith);
        }

    skip_digit : {rest spare : ℕ} {last : Option ℕ} (j v : ℕ) → v < 2 ^ 17
        → Walk w f 5 (4 * w.plain + w.taken) (at j rest 0 0 spare v 18 last) [] (at j rest 0 0 v V_F 27 last)
    skip_digit j v fits = record {
      path =
          on (T 18 (own 50) _ refl refl)
          (on (A 19 (own 49) (short 0) refl refl)
          (on (A 20 (own 48) (short 0) refl refl)
          (on (S 21 (own 40) (short V_F) refl (omega arith))
          (on (G_jumps 22 (own 27) refl (lit≤ tt)) stay))));
      weighs = omega arith;
    }

    -- from the test of a digit to the test for the next power
    show : {j p before after rest spare : ℕ} {last : Option ℕ} (q v : ℕ) (b : Bool) → Power j p before after → q ≤ 9
        → v < 2 ^ 17
        → Walk w f (10 + 4 * length (shown b q)) (shown_weight w b q + 5 * w.plain)
        (at j rest (flag_of b) (4096 * q) spare v 18 last) (shown b q)
        (at (j + 1) rest (flag_of (begun b q)) (4096 * q) (spared b q) after 32 (last_of last (shown b q)))
    show {j} zero v false o few fits = walked (skip_digit j v fits) (next V_F o (lit< tt))
    show {j} (suc q) v false o few fits =
        walked (print_digit j (suc q) 0 v few (lit≤ tt) (omega arith) fits) (next 0 o (lit< tt))
    show {j} q v true o few fits =
        walked (print_digit j q 4096 v few (lit≤ tt) (omega arith) fits) (next 0 o (lit< tt))

    -- a digit before the units
    turn : {j p before after v spare count : ℕ} {last : Option ℕ} (q r : ℕ) (b : Bool) → Power j p before after
        → (v ≡ q * p + r) × (r < p) → v < 2 ^ 16 → q ≤ 9
        → Walk w f (digit_orders b q) (digit_weight w b q) (at j v (flag_of b) count spare before 8 last) (shown b q)
        (at (j + 1) r (flag_of (begun b q)) (4096 * q) (spared b q) after 32 (last_of last (shown b q)))
    turn {j} {p} {before} {after} {v} {spare} {count} {last} q r b o parts low few =
        let most = o.most in
        let fits = o.low in
        let sum = parts.0 in
        let less = parts.1 in
        let n : digit_orders b q ≡ 2 + (8 * q + (3 + (10 + 4 * length (shown b q)))) = omega arith in
        let first : Walk w f 2 (2 * w.plain) (at j v (flag_of b) count spare before 8 last) []
        (at j v (flag_of b) (4096 * 0) before 0 10 last)
        = record {
          path = on (T 8 (own 50) _ refl refl) (on (T 9 (own 49) _ refl refl) stay);
          weighs = omega arith;
        } in
        let negative : nat_lt (short (r + (2 ^ 17 - p))) (2 ^ 70) ≡ false =
        le-ltb (short (r + (2 ^ 17 - p))) (2 ^ 70) (omega arith) in
        let last_try : Walk w f 3 (2 * w.plain + w.taken) (at j r (flag_of b) (4096 * q) before 0 10 last) []
        (at j r (flag_of b) (4096 * q) before (r + (2 ^ 17 - p)) 18 last)
        = record {
          path =
              on (A 10 (own 47) (short r) refl (omega arith))
              (on (S 11 (own j) (short (r + (2 ^ 17 - p))) (there_is o.own) (rw (o.holds _) (omega arith)))
              (on (G_jumps 12 (own 18) refl (omega arith)) stay));
          weighs = rw negative (omega arith);
        } in
        let z : 0 + q ≡ q = omega arith in
        let loop : Walk w f (8 * q) (q * once_weight w) (at j v (flag_of b) (4096 * 0) before 0 10 last) []
        (at j r (flag_of b) (4096 * q) before 0 10 last)
        = rw sum (rw z at (walked_away (λ u d. at j u (flag_of b) (4096 * d) before 0 10 last) p (2 ^ 16) (subtract o)
        q 0 r (omega arith, omega arith))) in
        rw n (walked first (walked loop (walked last_try (show q (r + (2 ^ 17 - p)) b o few (omega arith)))))

    -- the figure shift is printed, and the number taken
    opened : (work : Work) (v : ℕ) (last : Option ℕ) → get_or ws h 0 ≡ v → v < 2 ^ 16
        → Walk w f 8 (8 * w.plain) (run work (A_F + 2 * m) 0 last) (11 ∷ [])
        (at 43 v 0 work.at49 work.at50 0 8 (Some 11))
    opened work v last is low =
        let b = locations_most f.size in let fits = f.fits in let third = at3 in let back = room in
        record {
          path =
              on (A 0 (out 3 (early 3 behind (lit< tt) all)) (short (E_F + 2 * (m + 2))) refl (omega arith))
              (on (T 1 (own 38) _ refl refl)
              (prints (O 2 (own 39) 11 refl refl)
              (on (A 3 (out h away) (short v) refl (omega arith))
              (on (T 4 (own 47) _ refl refl)
              (on (T 5 (own 48) _ refl refl)
              (on (A 6 (own 41) (short (S_F + 2 * (f.base + 43))) refl (omega arith))
              (on (T 7 (own 11) _ refl refl) stay)))))));
          weighs = eight w.plain;
        }

    -- a power is left
    again : {rest flag count spare : ℕ} {last : Option ℕ} (j u : ℕ) → 2 ^ 16 ≤ u
        → Walk w f 1 w.taken (at j rest flag count spare u 32 last) [] (at j rest flag count spare u 8 last)
    again j u high =
        let negative : nat_lt (short u) (2 ^ 70) ≡ false = le-ltb (short u) (2 ^ 70) (omega arith) in
        record { path = on (G_jumps 32 (own 8) refl (omega arith)) stay; weighs = rw negative (omega arith) }

    -- no power is left: the units are printed
    closed : {flag count spare : ℕ} {last : Option ℕ} (j rest : ℕ) → rest ≤ 9
        → Walk w f 7 (w.passed_G + 3 * w.plain + 2 * w.middle + w.taken) (at j rest flag count spare 0 32 last)
        (rest ∷ []) (record (at j rest flag (4096 * rest) spare 0 0 (Some rest)) { counter = m + 2 })
    closed j rest few =
        let there : m + 2 < f.top = omega (arith, room) in
        record {
          path =
              on (G_stays 32 (own 8) refl (lit< tt))
              (on (A 33 (own 47) (short rest) refl (omega arith))
              (on (L 34 L512F (short (2048 * rest)) refl (omega arith))
              (on (L 35 LD (short (4096 * rest)) refl (omega arith))
              (on (T 36 (own 49) _ refl refl)
              (prints (O 37 (own 49) rest refl (omega arith))
              (on (E_jumps 38 (any (m + 2) there) refl (lit< tt)) stay))))));
          weighs = omega arith;
        }

    pub Walk-whole : (work : Work) (n : ℕ) (last : Option ℕ) → get_or ws h 0 ≡ n → n < 2 ^ 16
        → Walk w f (78 + 8 * sum (tens n) + 4 * shows false (tens n)) (print_weight w n)
        (run work (A_F + 2 * m) 0 last) (11 ∷ spelled false (tens n) (n % 10))
        (record (at 47 (n % 10) (flag_of (begun (before_tens n) (n / 10 % 10))) (4096 * (n % 10))
        (spared (before_tens n) (n / 10 % 10)) 0 0
        (Some (n % 10))) { counter = m + 2 })
    Walk-whole work n last is low =
        let q1 : ℕ = n / 10000 in
        let q2 : ℕ = n / 1000 % 10 in
        let q3 : ℕ = n / 100 % 10 in
        let q4 : ℕ = n / 10 % 10 in
        let b1 : Bool = begun false q1 in
        let b2 : Bool = begun b1 q2 in
        let b3 : Bool = begun b2 q3 in
        let p1 : Power 43 10000 0 131066 =
        record { holds = λ w. refl; own = refl; most = lit≤ tt; inside = lit< tt; low = lit< tt; next_is = refl } in
        let p2 : Power 44 1000 131066 131068 =
        record { holds = λ w. refl; own = refl; most = lit≤ tt; inside = lit< tt; low = lit< tt; next_is = refl } in
        let p3 : Power 45 100 131068 131070 =
        record { holds = λ w. refl; own = refl; most = lit≤ tt; inside = lit< tt; low = lit< tt; next_is = refl } in
        let p4 : Power 46 10 131070 0 =
        record { holds = λ w. refl; own = refl; most = lit≤ tt; inside = lit< tt; low = lit< tt; next_is = refl } in
        let e : 78 + 8 * sum (tens n) + 4 * shows false (tens n)
        ≡ 8 + (digit_orders false q1
        + (1 + (digit_orders b1 q2 + (1 + (digit_orders b2 q3 + (1 + (digit_orders b3 q4 + 7))))))) = omega arith in
        rw e (walked (opened work n last is low)
        (walked (turn q1 (n % 10000) false p1 (omega arith, omega arith) low (omega arith))
        (walked (again 44 131066 (lit≤ tt))
        (walked (turn q2 (n % 1000) b1 p2 (omega arith, omega arith) (omega arith) (omega arith))
        (walked (again 45 131068 (lit≤ tt))
        (walked (turn q3 (n % 100) b2 p3 (omega arith, omega arith) (omega arith) (omega arith))
        (walked (again 46 131070 (lit≤ tt))
        (walked (turn q4 (n % 10) b3 p4 (omega arith, omega arith) (omega arith) (omega arith))
        (closed 47 (n % 10) (omega arith))))))))))
