-- The program of `demo`, at any base and for any number of words: the loop whose order changes its own address, the
-- call of `print`, and the stop.
use Rattle.ed_sources.proofs.Kit.{sum_by-cons, A_F, G_F, Z_F, HasRoutine, ReachesStop, [], arith, get_or, inr, length}
use Rattle.ed_sources.proofs.Kit.{List, lit<, lit≤, refl, subst, ℕ, ◌*◌, ◌+◌, ◌-◌, ◌<◌, ◌∙◌, ◌∷◌, ◌≡◌, ◌≤◌}
use Rattle.ed_sources.proofs.Kit.{locations_most, Frame, Moment, short, state, A, G_jumps, Leads-path, on, Path, stay}
use Rattle.ed_sources.proofs.Kit.{own, print, with_h, digits, print_orders}
use Rattle.ed_maths.proofs.Kit.{G_stays, S, T, followed, early, out}
use Rattle.std.proofs.Common.{sum}
use Rattle.ed_words.specs.declared.order_words.TheConstants.{S_F, T_F, U_F}
use Rattle.ed_machine.proofs.Kit.Loops.{all_spent, quiet_walks, walked}
use Rattle.ed_machine.proofs.Kit.Moves.{U, Z}
use Rattle.ed_machine.proofs.Kit.Places.{IsOutside}
use Rattle.ed_machine.proofs.Kit.Window.{get_own}
use Rattle.ed_routines.proofs.Journeys.{IsIn, along, stop_after, then, to_stop}
use Rattle.ed_routines.proofs.Lines.{print_line}

-- the order that adds the word at q
abbrev pub taking : ℕ → ℕ
taking q = A_F + 2 * q

-- its words at b, with `print` at w and the order at `stop`; the order that adds, a cell for what is discarded, and
-- the sum so far change
abbrev pub cells : ℕ → ℕ → ℕ → ℕ → ℕ → ℕ → List ℕ
cells b w stop order scrap total =
    (T_F + 2 * (b + 14)) ∷ (A_F + 2 * (b + 15)) ∷ order ∷ (T_F + 2 * (b + 15)) ∷ (A_F + 2 * (b + 2)) ∷ 114692
    ∷ (U_F + 2 * (b + 2)) ∷ (S_F + 2 * (b + 13)) ∷ (G_F + 2 * (b + 0)) ∷ (T_F + 2 * (b + 14))
    ∷ (A_F + 2 * (b + 10)) ∷ (G_F + 2 * w) ∷ Z_F ∷ stop ∷ scrap ∷ total ∷ []

-- words are in a store from a location upwards
abbrev pub StandFrom : List ℕ → ℕ → List ℕ → Type 0
StandFrom ws q [] = Unit {0}
StandFrom ws q (c ∷ cs) = (get_or ws q 0 ≡ c) × StandFrom ws (q + 1) cs

-- the base of the program, with the words below the location e, and what is around it
pub record Given : Type 0 where
  pub f : Frame 16 0
  pub above : 56 ≤ f.base
  pub e : ℕ
  pub w : ℕ
  pub stop : ℕ
  pub stop_is : stop ≡ taking e
  pub room : e ≤ f.top
  pub around : Moment
  pub all : length around.words ≡ 1024
  pub at2 : get_or around.words 2 0 ≡ 2
  pub prints : HasRoutine f around.words print w (with_h (f.base + 15))

-- what changes as the loop goes round: the word's location, what is left of the comparison, what was discarded, and the
-- sum so far
pub record Turning : Type 0 where
  pub q : ℕ
  pub left : ℕ
  pub scrap : ℕ
  pub total : ℕ

module _ (given : Given) where
  open given use {f, e, w, stop, stop_is, around, above, all, at2, room}

  abbrev pub at : ℕ → ℕ → ℕ → ℕ → ℕ → Moment
  at i v order scrap total = record around {
    cells = cells f.base w stop order scrap total;
    pairs = [];
    acc = short v;
    counter = f.base + i;
  }

  -- before a turn, and after the last one
  abbrev before : Turning → List ℕ → Moment
  before x [] = at 9 0 (taking x.q) x.scrap x.total
  before x (c ∷ cs) = at 0 x.left (taking x.q) x.scrap x.total

  -- what the comparison leaves if some words are left
  abbrev compared : List ℕ → ℕ
  compared [] = 0
  compared (c ∷ cs) = 131072 - 2 * length (c ∷ cs)

  abbrev next_turn : Turning → ℕ → List ℕ → Turning
  next_turn x c cs = record { q = x.q + 1; left = compared cs; scrap = x.left; total = x.total + c }

  -- the words that are left are there, and with them the sum is n
  pub record Fine (n : ℕ) (x : Turning) (cs : List ℕ) : Type 0 where
    pub words : StandFrom around.words x.q cs
    pub ends : x.q + length cs ≡ e
    pub from : f.base + 16 ≤ x.q
    pub sums : x.total + sum cs ≡ n

  module _ (n : ℕ) (small : n < 65536) where
    -- a word is added, and the order that adds it gets the next address
    step : (x : Turning) (c : ℕ) (cs : List ℕ) → Fine n x (c ∷ cs)
        → Path f 7 (at 0 x.left (taking x.q) x.scrap x.total) []
        (at 7 (taking (x.q + 1)) (taking (x.q + 1)) x.left (x.total + c))
    step x c cs o =
        let b = locations_most f.size in let fits = f.fits in let long = o.ends in let from =
        o.from in let second = at2 in
        let here = o.words.0 in let sums = o.sums in let more = sum_by-cons (λ y. y) c cs in let r = room in
        let outside : IsOutside f around.words x.q = record { below = omega arith; beside = inr from } in
        on (T 0 (own 14) _ refl refl)
        (on (A 1 (own 15) (short x.total) refl (omega arith))
        (on (A 2 (out x.q outside) (short (x.total + c)) refl (omega arith))
        (on (T 3 (own 15) _ refl refl)
        (on (A 4 (own 2) (short (taking x.q)) refl (omega arith))
        (on (A 5 (out 2 (early 2 above (lit< tt) all)) (short (taking (x.q + 1))) refl (omega arith))
        (on (U 6 (own 2) _ refl refl) stay))))))

    -- a turn: the order is compared with the one at `stop`, and the loop goes on as long as it is below it
    turn : (x : Turning) (c : ℕ) (cs : List ℕ) → Fine n x (c ∷ cs)
        → Fine n (next_turn x c cs) cs × Path f 9 (before x (c ∷ cs)) [] (before (next_turn x c cs) cs)
    turn x c [] o =
        let b = locations_most f.size in let fits = f.fits in let long = o.ends in let r = room in let from = o.from in
        let is = stop_is in let sums = o.sums in let more = sum_by-cons (λ y. y) c [] in (
          record { words = tt; ends = omega arith; from = omega arith; sums = omega arith },
          followed (step x c [] o)
              (on (S 7 (own 13) (short 0) refl (omega arith))
              (on (G_stays 8 (own 0) refl (lit< tt)) stay)),
        )
    turn x c (d ∷ ds) o =
        let b = locations_most f.size in let fits = f.fits in let long = o.ends in let r = room in let from = o.from in
        let is = stop_is in let sums = o.sums in let more = sum_by-cons (λ y. y) c (d ∷ ds) in
        let left : ℕ = 131072 - 2 * length (d ∷ ds) in (
          record { words = o.words.1; ends = omega arith; from = omega arith; sums = omega (arith, more, sums) },
          followed (step x c (d ∷ ds) o)
              (on (S 7 (own 13) (short left) refl (omega arith))
              (on (G_jumps 8 (own 0) refl (omega arith)) stay)),
        )

    -- each turn takes 9 orders
    nine_each : (x : Turning) (cs : List ℕ) → all_spent (λ y c. 9) next_turn x cs ≡ 9 * length cs
    nine_each x [] = refl
    nine_each x (c ∷ cs) = let rest = nine_each (next_turn x c cs) cs in omega (arith, rest)

    -- the sum is printed after the loop, and the machine stops
    closes : (y : Turning) → y.total ≡ n → (done : ℕ)
        → ReachesStop (3 + print_orders n) (state f (before y []) done) (11 ∷ digits n) (f.base + 13)
    closes y is done =
        let start : Moment = at 10 0 (taking y.q) 0 y.total in
        let here : IsIn f start = record { above = above; all = all; own = refl } in
        let number : get_or (cells f.base w stop (taking y.q) 0 y.total) 15 0 ≡ n = is in
        let prints =
        print_line here {v = n} 10 15 given.prints
        (get_own 0 around.words f.base (cells f.base w stop (taking y.q) 0 y.total) 15 (lit< tt) ∙ number)
        (lit< tt) small
        (lit≤ tt) refl refl refl in
        let count : 1 + (2 + print_orders n) ≡ 3 + print_orders n = omega arith in
        subst (λ k. ReachesStop k (state f (before y []) done) (11 ∷ digits n) (f.base + 13)) count
        (to_stop (then (along (on (T 9 (own 14) 0 refl refl) stay)) prints) (Z 12 Z_F refl refl) done)

    -- the whole program adds up the words, prints the sum and stops
    pub demo_stops : (x : Turning) (cs : List ℕ) → 0 < length cs → Fine n x cs → (done : ℕ)
        → ReachesStop (9 * length cs + (3 + print_orders n)) (state f (at 0 x.left (taking x.q) x.scrap x.total) done)
        (11 ∷ digits n) (f.base + 13)
    demo_stops x [] some o done = absurd (omega arith)
    demo_stops x (c ∷ cs) some o done =
        let rounds = quiet_walks before (λ y c. 9) next_turn (Fine n) turn x (c ∷ cs) o in
        let last : Turning = walked next_turn x (c ∷ cs) in
        let sums = rounds.0.sums in
        let total : last.total ≡ n = omega arith in
        let count = nine_each x (c ∷ cs) in
        stop_after (Leads-path (rw count at rounds.1) done) refl (closes last total (done + 9 * length (c ∷ cs)))
