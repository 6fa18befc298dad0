-- The program of `examples/answer6.edsac`, at any base and for a list of any length: two orders go along the list.
use Rattle.ed_programs.proofs.Kit.{before_order, quiet_walks, locations_most, print_orders, ReachesStop, stop_counted}
use Rattle.ed_programs.proofs.Kit.{greatest_of, Z, all_spent, ltb-false, print_line, followed, HasRoutine, walked}
use Rattle.ed_programs.proofs.Kit.{nat_tests, to_stop, get_own, get_or, length, nat_lt, ltb-true, Moment, with_h, IsIn}
use Rattle.ed_programs.proofs.Kit.{along, arith, false, subst, Frame, state, print, digits, rises, A_F, G_F, S_F, T_F}
use Rattle.ed_programs.proofs.Kit.{U_F, Z_F, then, Bool, List, lit<, lit≤, refl, true, Path, [], ap, ℕ, ◌*◌, ◌+◌, ◌-◌}
use Rattle.ed_programs.proofs.Kit.{◌<◌, ◌∙◌, ◌∷◌, ◌≡◌, ◌≤◌}
use Rattle.std.proofs.Common.{max}
use Rattle.ed_programs.proofs.Orders.{A, A_high, A_low, G_jumps, G_stays, S, T, U, obeys}

-- the order that gets the word at q
abbrev pub getting : ℕ → ℕ
getting q = A_F + 2 * q

-- its words at b; the list ends before e, and `print` is at p. The two orders that get a number, the greatest
-- and a cell for what is discarded change
abbrev pub cells : ℕ → ℕ → ℕ → ℕ → ℕ → ℕ → ℕ → List ℕ
cells b e p look take greatest scrap =
    (T_F + 2 * (b + 22)) ∷ look ∷ (S_F + 2 * (b + 20)) ∷ (G_F + 2 * (b + 7)) ∷ (T_F + 2 * (b + 22)) ∷ take
    ∷ (T_F + 2 * (b + 20)) ∷ (T_F + 2 * (b + 22)) ∷ (A_F + 2 * (b + 5)) ∷ 114692 ∷ (T_F + 2 * (b + 5))
    ∷ (A_F + 2 * (b + 1)) ∷ 114692 ∷ (U_F + 2 * (b + 1)) ∷ (S_F + 2 * (b + 21)) ∷ (G_F + 2 * (b + 0))
    ∷ (T_F + 2 * (b + 22)) ∷ (A_F + 2 * (b + 17)) ∷ (G_F + 2 * p) ∷ Z_F ∷ greatest ∷ (A_F + 2 * e)
    ∷ scrap ∷ []

-- its base, and what is around it
pub record Given : Type 0 where
  pub f : Frame 23 0
  pub above : 56 ≤ f.base
  pub e : ℕ
  pub p : ℕ
  pub room : e ≤ f.top
  pub around : Moment
  pub all : length around.words ≡ 1024
  pub at2 : get_or around.words 2 0 ≡ 2
  pub prints : HasRoutine f around.words print p (with_h (f.base + 20))

-- what holds in either case of a test of two numbers
pub by_less : (P : Bool → Type 0) (a b : ℕ) → (a < b → P true) → (b ≤ a → P false) → P (nat_lt a b)
by_less P a b less least = by_test (nat_lt a b) refl
  where
    by_test : (c : Bool) → nat_lt a b ≡ c → P c
    by_test true is = less (ltb-true a b is)
    by_test false is = least (ltb-false a b is)

-- numbers are in words from a location upwards
abbrev pub Stand : List ℕ → ℕ → List ℕ → Type 0
Stand ws q [] = Unit {0}
Stand ws q (n ∷ ns) = (get_or ws q 0 ≡ n) × (n < 65536) × Stand ws (q + 1) ns

-- what changes as the loop goes round: the number's location, what is left of the comparison, the greatest so far, and
-- what was discarded
pub record Turning : Type 0 where
  pub q : ℕ
  pub left : ℕ
  pub most : ℕ
  pub scrap : ℕ

-- what the comparison leaves, by the numbers that are left
abbrev pub compared : List ℕ → ℕ
compared [] = 0
compared (n ∷ ns) = 131072 - 2 * length (n ∷ ns)

-- after a turn, by whether the number is smaller than the greatest so far
abbrev pub next_by : Bool → Turning → ℕ → List ℕ → Turning
next_by true x n ns = record { q = x.q + 1; left = compared ns; most = x.most; scrap = 131072 - (x.most - n) }
next_by false x n ns = record { q = x.q + 1; left = compared ns; most = n; scrap = 0 }

abbrev pub next : Turning → ℕ → List ℕ → Turning
next x n ns = next_by (nat_lt n x.most) x n ns

abbrev pub orders_by : Bool → ℕ
orders_by true = 13
orders_by false = 16

abbrev pub orders : Turning → ℕ → ℕ
orders x n = orders_by (nat_lt n x.most)

-- the number of orders of all turns, and which number is the greatest after them
spent_is : (x : Turning) (ns : List ℕ) → all_spent orders next x ns ≡ 13 * length ns + 3 * rises x.most ns
spent_is x [] = omega arith
spent_is x (n ∷ ns) =
    grind (arith, nat_tests, spent_is (next_by true x n ns) ns, spent_is (next_by false x n ns) ns)

most_is : (x : Turning) (ns : List ℕ) → (walked next x ns).most ≡ max x.most (greatest_of ns)
most_is x [] = omega arith
most_is x (n ∷ ns) =
    grind (arith, nat_tests, most_is (next_by true x n ns) ns, most_is (next_by false x n ns) ns)

module _ (given : Given) where
  open given use {f, e, p, around, above, all, at2, room}

  abbrev pub at : ℕ → ℕ → ℕ → ℕ → ℕ → ℕ → Moment
  at i v look take greatest scrap =
      before_order around (f.base + i) v (cells f.base e p look take greatest scrap)

  -- before a turn, and after the last one
  abbrev pub before : Turning → List ℕ → Moment
  before x [] = at 16 0 (getting x.q) (getting x.q) x.most x.scrap
  before x (n ∷ ns) = at 0 x.left (getting x.q) (getting x.q) x.most x.scrap

  pub record Fine (x : Turning) (ns : List ℕ) : Type 0 where
    pub stand : Stand around.words x.q ns
    pub ends : x.q + length ns ≡ e
    pub from : f.base + 23 ≤ x.q
    pub small : x.left < 131072
    pub low : x.most < 65536

  -- the two orders get the next address, and are compared with the order for the location after the list
  closes : (q g t old : ℕ) (ns : List ℕ) → q + 1 + length ns ≡ e → f.base + 23 ≤ q → t < 131072
      → Path f 9 (at 7 t (getting q) (getting q) g old) []
      (before (record { q = q + 1; left = compared ns; most = g; scrap = t }) ns)
  closes q g t old [] ends from few =
      let b = locations_most f.size in let fits = f.fits in let r = room in let second = at2 in
      obeys 7 t (T 22 ∷ A 5 (getting q) ∷ A_low 2 (getting (q + 1)) ∷ T 5 ∷ A 1 (getting q) ∷ A_low 2 (getting (q + 1))
      ∷ U 1 ∷ S 21 0 ∷ G_stays 0 ∷ []) refl (omega arith)
  closes q g t old (n ∷ ns) ends from few =
      let b = locations_most f.size in let fits = f.fits in let r = room in let second = at2 in
      obeys 7 t (T 22 ∷ A 5 (getting q) ∷ A_low 2 (getting (q + 1)) ∷ T 5 ∷ A 1 (getting q) ∷ A_low 2 (getting (q + 1))
      ∷ U 1 ∷ S 21 (compared (n ∷ ns)) ∷ G_jumps 0 ∷ []) refl (omega arith)

  left_small : (ns : List ℕ) → compared ns < 131072
  left_small [] = lit< tt
  left_small (n ∷ ns) = omega arith

  -- a turn, by whether the number is smaller than the greatest so far
  turn : (x : Turning) (n : ℕ) (ns : List ℕ) → Fine x (n ∷ ns)
      → Fine (next x n ns) ns × Path f (orders x n) (before x (n ∷ ns)) [] (before (next x n ns) ns)
  turn x n ns o =
      let b = locations_most f.size in let fits = f.fits in let r = room in let long = o.ends in let from = o.from in
      let here = o.stand.0 in let few = o.stand.1 in let low = o.low in
      by_less (λ b. Fine (next_by b x n ns) ns
      × Path f (orders_by b) (before x (n ∷ ns)) [] (before (next_by b x n ns) ns)) n x.most
      (λ less.
      let t : ℕ = 131072 - (x.most - n) in (
        record { stand = o.stand.2; ends = omega arith; from = omega arith; small = left_small ns; low = low },
        followed
            (obeys 0 x.left (T 22 ∷ A_high x.q n ∷ S 20 t ∷ G_jumps 7 ∷ []) refl (omega arith))
            (closes x.q x.most t x.left ns (omega arith) (omega arith) (omega arith)),
      ))
      (λ least. (
        record { stand = o.stand.2; ends = omega arith; from = omega arith; small = left_small ns; low = few },
        followed
            (obeys 0 x.left (T 22 ∷ A_high x.q n ∷ S 20 (n - x.most) ∷ G_stays 7 ∷ T 22 ∷ A_high x.q n ∷ T 20 ∷ []) refl
            (omega arith))
            (closes x.q n 0 (n - x.most) ns (omega arith) (omega arith) (lit< tt)),
      ))

  -- from the first number to the stop
  pub greatest_stops : (x : Turning) (ns : List ℕ) → Fine x ns → x.most ≡ 0 → (done : ℕ)
      → ReachesStop (13 * length ns + 3 * rises 0 ns + print_orders (greatest_of ns) + 3)
      (state f (before x ns) done) (11 ∷ digits (greatest_of ns)) (f.base + 20)
  greatest_stops x ns o none done =
      let went = quiet_walks before orders next Fine turn x ns o in
      let y : Turning = walked next x ns in
      let low = went.0.low in
      let last : Moment = at 17 0 (getting y.q) (getting y.q) y.most 0 in
      let in_last : IsIn f last = record { above = above; all = all; own = refl } in
      let number = get_own 0 around.words f.base (cells f.base e p (getting y.q) (getting y.q) y.most 0) 20 (lit< tt) in
      let prints = print_line in_last {v = y.most} 17 20 given.prints number (lit< tt) low (lit≤ tt) refl refl refl in
      let whole = (then) (along (followed went.1 (obeys 16 0 (T 22 ∷ []) refl (omega arith)))) prints in
      let turns : all_spent orders next x ns ≡ 13 * length ns + 3 * rises 0 ns =
      spent_is x ns ∙ ap (λ m. 13 * length ns + 3 * rises m ns) none in
      let is : y.most ≡ greatest_of ns = most_is x ns ∙ ap (λ m. max m (greatest_of ns)) none ∙ omega arith in
      subst (λ v. ReachesStop (13 * length ns + 3 * rises 0 ns + print_orders v + 3) (state f (before x ns) done)
      (11 ∷ digits v) (f.base + 20))
      is
      (stop_counted (to_stop whole (Z 19 Z_F refl refl) done) (omega (arith, turns)))
