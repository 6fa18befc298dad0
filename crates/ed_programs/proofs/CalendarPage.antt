-- The days in `examples/calendar.tape`: the spaces before the first, and each day.
use Rattle.ed_programs.proofs.Kit.{sum, Size, followed, [], arith, false, inl, inr, List, lit<, map, Option, refl, Some}
use Rattle.ed_programs.proofs.Kit.{suc, zero, ℕ, ◌%◌, ◌*◌, ◌+◌, ◌-◌, ◌/◌, ◌<◌, ◌==◌, ◌∷◌, ◌≡◌, ◌≤◌, cases_lt, nat_tests}
use Rattle.ed_programs.proofs.Kit.{Moment, Path, replicate, day_orders, day_codes, days_codes, sum_by-cons, to}
use Rattle.ed_programs.proofs.Kit.{Path-counted}
use Rattle.ed_programs.proofs.CalendarCells.{at, frame, IsAround, Work}
use Rattle.ed_programs.proofs.CalendarCodes.{days_from}
use Rattle.ed_programs.proofs.CalendarFigures.{left_by_two, prints_two}
use Rattle.ed_programs.proofs.Orders.{A, E_jumps, E_stays, G_jumps, G_stays, O, S, T, U, obeys}

module _ (z : Size) (m : Moment) (o : IsAround m.words) where
  -- ---- three spaces for each day before the first

  gap : (n : ℕ) (k : Work) (last : Option ℕ) → n < 100
      → (y : Option ℕ) × Path (frame z) (3 + 9 * n) (at m 101 0 (record k { count = (131072 - n) % 131072 }) last)
      (replicate (3 * n) 20) (at m 110 0 (record k { count = 0; scrap = 0 }) y)
  gap zero k last few = (
    last,
    obeys 101 0 (T 300 ∷ A 306 0 ∷ E_jumps 110 ∷ []) refl (omega arith),
  )
  gap (suc n) k last few =
      let rest = gap n (record k { scrap = 0 }) (Some 20) (omega (arith, few)) in
      let three : 3 * suc n ≡ suc (suc (suc (3 * n))) = omega arith in (
        rest.0,
        rw three (Path-counted
            (followed (obeys 101 0 (T 300 ∷ A 306 (131072 - suc n) ∷ E_stays 110 ∷ A 299 ((131072 - n) % 131072)
            ∷ T 306 ∷ O 310 20 ∷ O 310 20 ∷ O 310 20 ∷ E_jumps 101 ∷ []) refl
            (omega (arith, few))) rest.1) (omega arith)),
      )

  -- the sheet is begun: b days before the first
  pub begins_page : (b : ℕ) (k : Work) (last : Option ℕ) → k.weekday ≡ b → b < 7
      → (y : Option ℕ) × Path (frame z) (10 + 9 * b) (at m 94 0 k last) (replicate (3 * b) 20)
      (at m 110 0 (record k {
        first_power = to 12 316;
        place = 131072 - (7 - b);
        count = 0;
        scrap = 0;
      }) y)
  begins_page b k last is few =
      let rest = gap b (record k { first_power = to 12 316; place = 131072 - (7 - b) }) last (omega (arith, few)) in (
        rest.0,
        Path-counted
            (followed (obeys 94 0 (A 317 (to 12 316) ∷ T 309 ∷ A 296 b ∷ S 321 (131072 - (7 - b)) ∷ T 320
            ∷ S 296 ((131072 - b) % 131072) ∷ T 306 ∷ []) refl (omega (arith, is, few))) rest.1) (omega arith),
      )

  -- ---- the days, l of them

  -- n orders lead from a moment to the stop
  abbrev pub HasEnded : ℕ → Moment → List ℕ → Type 0
  HasEnded n t cs = (work : Work) × (last : Option ℕ) × Path (frame z) n t cs (at m 131 0 work last)

  module _ (l : ℕ) (few : l < 100) where
    -- before day suc d, with b days of its week before it
    abbrev pub before_day : ℕ → ℕ → Work → Work
    before_day d b k = record k { first_power = to 12 316; day = d; place = 131072 - (7 - b); days = l }

    enough : (day : ℕ) → 16 ≤ day_orders day
    enough day = grind (arith, nat_tests)

    -- a day is counted, it is not past the last, and it is printed
    shows_day : (k : Work) (d b v : ℕ) (last : Option ℕ) → d < l → v < 131072
        → Path (frame z) (day_orders (suc d) - 4) (at m 110 v (before_day d b k) last) (day_codes (suc d))
        (at m 122 0 (before_day (suc d) b (left_by_two 120 (suc d) k)) (Some (suc d % 10)))
    shows_day k d b v last more small =
        let shown = prints_two z m o 120 (suc d) (record (before_day (suc d) b k) { scrap = 131072 - (l - d) })
        (Some 20) (lit< tt) (omega arith) in
        let some = enough (suc d) in
        Path-counted
        (followed (obeys 110 v (T 300 ∷ A 322 d ∷ A 299 (suc d) ∷ U 322 ∷ U 297
        ∷ S 307 ((131072 + suc d - l) % 131072) ∷ S 299 (131072 - (l - d)) ∷ E_stays 131 ∷ O 310 20 ∷ T 300
        ∷ A 120 (to 28 120) ∷ G_jumps 234 ∷ []) refl (omega arith)) shown) (omega arith)

    -- the n days from day suc d on, with b days of the week before it
    pub HasEnded-days : (n : ℕ) (k : Work) (d b v : ℕ) (last : Option ℕ) → d + n ≡ l → b < 7 → v < 131072
        → HasEnded (sum (map day_orders (days_from (suc d) n)) + 5 * ((b + n) / 7) + 8)
        (at m 110 v (before_day d b k) last) (days_codes b (suc d) n)
    HasEnded-days zero k d b v last ends week small =
        let none : sum (map day_orders (days_from (suc d) 0)) ≡ 0 = refl in (
          record (before_day (suc d) b k) { scrap = v; number = suc d },
          last,
          Path-counted
              (obeys 110 v (T 300 ∷ A 322 d ∷ A 299 (suc d) ∷ U 322 ∷ U 297 ∷ S 307 1 ∷ S 299 0
              ∷ E_jumps 131 ∷ []) refl (omega arith)) (omega arith),
        )
    HasEnded-days (suc n) k d b v last ends week small =
        let whole = sum_by-cons (λ x. x) (day_orders (suc d)) (map day_orders (days_from (suc (suc d)) n)) in
        let some = enough (suc d) in
        let after : Work = left_by_two 120 (suc d) k in
        let unit : Option ℕ = Some (suc d % 10) in
        elim (cases_lt b 6) [
          -- the week is not over after it
          | inl low ↦
              let test : (b == 6) ≡ false = grind (arith, nat_tests) in
              let rest = HasEnded-days n after (suc d) (suc b) (131072 - (7 - suc b)) unit (omega arith) (omega arith)
              (omega arith) in
              let next : suc b % 7 ≡ suc b = omega arith in
              rw (test, next) (
                rest.0,
                rest.1,
                Path-counted (followed (shows_day k d b v last (omega arith) small)
                    (followed (obeys 122 0 (A 320 (131072 - (7 - b)) ∷ A 299 (131072 - (7 - suc b)) ∷ U 320
                    ∷ G_jumps 110 ∷ []) refl (omega arith)) rest.2)) (omega arith),
              )
          -- it is over: a new line
          | inr high ↦
              let sixth : b ≡ 6 = omega arith in
              let rest = HasEnded-days n after (suc d) 0 0 (Some 24) (omega arith) (lit< tt) (lit< tt) in
              rw sixth (
                rest.0,
                rest.1,
                Path-counted (followed (shows_day k d 6 v last (omega arith) small)
                    (followed (obeys 122 0 (A 320 131071 ∷ A 299 0 ∷ U 320 ∷ G_stays 110 ∷ S 321 131065 ∷ T 320
                    ∷ O 318 18 ∷ O 323 24 ∷ E_jumps 110 ∷ []) refl (omega arith)) rest.2)) (omega arith),
              )
        ]
