-- The printing of a number in `examples/calendar.tape`.
use Rattle.ed_programs.proofs.Kit.{Size, L512F, Remains, LD, followed, [], arith, lit<, lit≤, Option, refl, Some, suc}
use Rattle.ed_programs.proofs.Kit.{zero, ℕ, ◌*◌, ◌+◌, ◌-◌, ◌<◌, ◌^◌, ◌∷◌, ◌≡◌, ◌≤◌, Moment, short, Path, if◌then◌else◌}
use Rattle.ed_programs.proofs.Kit.{nat_lt, cases_lt, inl, inr, lt-ltb, le-ltb, ◌/◌, ◌%◌, day_orders, year_codes, to}
use Rattle.ed_programs.proofs.Kit.{Path-counted}
use Rattle.ed_programs.proofs.CalendarCells.{at, frame, IsAround, Work}
use Rattle.ed_programs.proofs.Orders.{A, A_low, E_by, E_jumps, G_jumps, G_stays, L, O, S, T, U, obeys}

-- the powers of ten, the greatest first
abbrev pub power : ℕ → ℕ
power zero = 1000
power (suc zero) = 100
power n = 10

-- the power t is the next
abbrev pub next : ℕ → Work → Work
next t k = record k { power = to 12 (314 + t) }

-- what a number printed from cell i leaves, with v in the units
abbrev pub left_by : ℕ → ℕ → Work → Work
left_by i v k = next 3 (record k {
  number = v;
  figure = 4096 * v;
  shown = 4096;
  scrap = 0;
  print_link = to 3 (i + 2);
})

-- what a number n of at most two figures leaves
abbrev pub left_by_two : ℕ → ℕ → Work → Work
left_by_two i n k = record (left_by i (n % 10) k) { shown = if nat_lt n 10 then 0 else 4096 }

module _ (z : Size) (m : Moment) (o : IsAround m.words) where
  -- a power is taken away
  takes : (t : ℕ) (k : Work) (v u : ℕ) (last : Option ℕ) → t < 3
      → Remains (short v) (power t * 2 ^ 18 * 2 ^ 36) (short u)
      → Path (frame z) 1 (at m 242 v (next t k) last) [] (at m 243 u (next t k) last)
  takes zero k v u last few left = obeys 242 v (S 314 u ∷ []) refl (omega arith)
  takes (suc zero) k v u last few left = obeys 242 v (S 315 u ∷ []) refl (omega arith)
  takes (suc (suc zero)) k v u last few left = obeys 242 v (S 316 u ∷ []) refl (omega arith)
  takes (suc (suc (suc t))) k v u last few left = absurd (omega (arith, few))

  -- each is from 10 to 1000
  some_power : (t : ℕ) → (10 ≤ power t) × (power t ≤ 1000)
  some_power zero = (lit≤ tt, lit≤ tt)
  some_power (suc zero) = (lit≤ tt, lit≤ tt)
  some_power (suc (suc t)) = (lit≤ tt, lit≤ tt)

  -- as often as it can be, from the number v; r is left, and the figure is w
  all_taken : (q : ℕ) (t : ℕ) (k : Work) (v r g w : ℕ) (last : Option ℕ) → t < 3 → power t * q + r ≡ v → r < power t
      → v < 10000 → g + q ≡ w → w ≤ 9
      → Path (frame z) (3 + 8 * q) (at m 241 0 (next t (record k { number = v; figure = 4096 * g })) last) []
      (at m 249 (131072 - (power t - r)) (next t (record k { number = r; figure = 4096 * w })) last)
  all_taken zero t k v r g w last few is less small sum nine =
      let some = some_power t in
      let same : v ≡ r = omega arith in
      let done : g ≡ w = omega arith in
      let path : Path (frame z) 3 (at m 241 0 (next t (record k { number = r; figure = 4096 * w })) last) []
      (at m 249 (131072 - (power t - r)) (next t (record k { number = r; figure = 4096 * w })) last) =
      followed (obeys 241 0 (A 297 r ∷ []) refl (omega arith))
      (followed (takes t (record k { number = r; figure = 4096 * w }) r (131072 - (power t - r)) last few (omega arith))
      (obeys 243 (131072 - (power t - r)) (G_jumps 249 ∷ []) refl (omega arith))) in
      rw (same, done) path
  all_taken (suc q) t k v r g w last few is less small sum nine =
      let some = some_power t in
      let left : ℕ = power t * q + r in
      let whole : left + power t ≡ v = omega (arith, is) in
      Path-counted
      (followed (obeys 241 0 (A 297 v ∷ []) refl (omega (arith, small)))
      (followed (takes t (record k { number = v; figure = 4096 * g }) v left last few
      (omega (arith, whole, small)))
      (followed (obeys 243 left (G_stays 249 ∷ T 297 ∷ A 298 (4096 * g) ∷ A 301 (4096 * suc g) ∷ T 298
      ∷ E_jumps 241 ∷ []) refl (omega (arith, whole, small, sum, nine)))
      (all_taken q t k left r (suc g) w last few refl less (omega arith) (omega arith) nine))))
      (omega arith)

  -- the figure q of the power t in v, with r left; s is 4096 if figures were printed before it, and else 0
  shows : (t q v r : ℕ) (k : Work) (x s u : ℕ) (last : Option ℕ) → t < 3 → power t * q + r ≡ v → r < power t → v < 10000
      → q ≤ 9 → x < 131072 → 4096 ≤ 4096 * q + s → s ≤ 4096
      → Remains (short (to 12 (314 + suc t))) (to 12 317 * 2 ^ 18 * 2 ^ 36) (short u)
      → Path (frame z) (20 + 8 * q) (at m 239 x (next t (record k { number = v; shown = s })) last) (q ∷ [])
      (at m 265 u (next (suc t) (record k {
        number = r;
        shown = 4096;
        figure = 4096 * q;
        scrap = 0;
      })) (Some q))
  shows t q v r k x s u last few is less small nine room some most left =
      let p = some_power t in
      let at2 = o.at2 in
      Path-counted
      (followed (obeys 239 x (T 300 ∷ T 298 ∷ []) refl (omega arith))
      (followed (all_taken q t (record k { shown = s; scrap = x }) v r 0 q last few is less small (omega arith) nine)
      (obeys 249 (131072 - (power t - r)) (T 300 ∷ A 298 (4096 * q) ∷ A 308 (4096 * q + s)
      ∷ S 301 (4096 * q + s - 4096) ∷ G_stays 259 ∷ O 298 q ∷ T 300 ∷ A 301 4096 ∷ T 308 ∷ E_jumps 260 ∷ T 300
      ∷ A 242 (to 12 (314 + t)) ∷ A_low 2 (to 12 (314 + suc t)) ∷ U 242 ∷ S 311 u ∷ []) refl
      (omega (arith, few, nine, most, some))))) (omega arith)

  -- a space for a nought before the first figure
  leaves_out : (t : ℕ) (k : Work) (x r u : ℕ) (last : Option ℕ) → t < 3 → r < power t → x < 131072
      → Remains (short (to 12 (314 + suc t))) (to 12 317 * 2 ^ 18 * 2 ^ 36) (short u)
      → Path (frame z) 16 (at m 239 x (next t (record k { number = r; shown = 0 })) last) (20 ∷ [])
      (at m 265 u (next (suc t) (record k { number = r; shown = 0; figure = 0; scrap = 126976 })) (Some 20))
  leaves_out t k x r u last few less small left =
      let p = some_power t in
      let at2 = o.at2 in
      followed (obeys 239 x (T 300 ∷ T 298 ∷ []) refl (omega arith))
      (followed (all_taken 0 t (record k { shown = 0; scrap = x }) r r 0 0 last few (omega arith) less
      (omega (arith, less, p.1)) refl (lit≤ tt))
      (obeys 249 (131072 - (power t - r)) (T 300 ∷ A 298 0 ∷ A 308 0 ∷ S 301 126976 ∷ G_jumps 259 ∷ O 310 20
      ∷ T 300 ∷ A 242 (to 12 (314 + t)) ∷ A_low 2 (to 12 (314 + suc t)) ∷ U 242 ∷ S 311 u ∷ []) refl
      (omega (arith, few))))

  -- the units, and the return to cell i
  units : (i : ℕ) (k : Work) (v : ℕ) (last : Option ℕ) → i < 150 → v < 10
      → Path (frame z) 7 (at m 266 0 (record k { number = v; print_link = to 3 i }) last) (v ∷ [])
      (at m i 0 (record k { number = v; figure = 4096 * v; scrap = 0; print_link = to 3 i }) (Some v))
  units i k v last low few =
      obeys 266 0 (T 300 ∷ A 297 v ∷ L L512F (2048 * v) ∷ L LD (4096 * v) ∷ T 298 ∷ O 298 v ∷ E_by i ∷ []) refl
      (omega arith)

  -- called from cell i, with t as the first power
  begins : (i t : ℕ) (k : Work) (last : Option ℕ) → i < 150 → t < 3
      → Path (frame z) 5 (at m 234 (to 28 i) (record k { first_power = to 12 (314 + t) }) last) []
      (at m 239 0 (next t (record k {
        first_power = to 12 (314 + t);
        shown = 0;
        print_link = to 3 (i + 2);
      })) last)
  begins i t k last low few =
      let at3 = o.at3 in
      obeys 234 (to 28 i) (A_low 3 (to 3 (i + 2)) ∷ T 272 ∷ T 308 ∷ A 309 (to 12 (314 + t)) ∷ T 242 ∷ []) refl
      (omega (arith, few))

  -- a number of four figures
  pub prints_four : (i n : ℕ) (k : Work) (last : Option ℕ) → i < 140 → 1000 ≤ n → n < 10000
      → Path (frame z) (75 + 8 * (n / 1000 + n / 100 % 10 + n / 10 % 10))
      (at m 234 (to 28 i) (record k { first_power = to 12 314; number = n }) last) (year_codes n)
      (at m (i + 2) 0 (left_by i (n % 10) (record k { first_power = to 12 314 })) (Some (n % 10)))
  prints_four i n k last low some few =
      let k0 : Work = record k { first_power = to 12 314; print_link = to 3 (i + 2) } in
      let a : ℕ = n / 1000 in
      let b : ℕ = n / 100 % 10 in
      let c : ℕ = n / 10 % 10 in
      Path-counted
      (followed (begins i 0 (record k { number = n }) last (omega arith) (lit< tt))
      (followed (shows 0 a n (n % 1000) k0 0 0 131068 last (lit< tt) (omega arith) (omega arith) few (omega arith)
      (lit< tt) (omega arith) (lit≤ tt) (omega arith))
      (followed (obeys 265 131068 (G_jumps 239 ∷ []) refl (omega arith))
      (followed (shows 1 b (n % 1000) (n % 100) (record k0 { figure = 4096 * a; scrap = 0 }) 131068 4096 131070 (Some a)
      (lit< tt) (omega arith) (omega arith) (omega arith) (omega arith) (lit< tt) (omega arith) (lit≤ tt) (omega arith))
      (followed (obeys 265 131070 (G_jumps 239 ∷ []) refl (omega arith))
      (followed (shows 2 c (n % 100) (n % 10) (record k0 { figure = 4096 * b; scrap = 0 }) 131070 4096 0 (Some b)
      (lit< tt) (omega arith) (omega arith) (omega arith) (omega arith) (lit< tt) (omega arith) (lit≤ tt) (omega arith))
      (followed (obeys 265 0 (G_stays 239 ∷ []) refl (omega arith))
      (units (i + 2) (next 3 (record k0 { figure = 4096 * c; shown = 4096; scrap = 0 })) (n % 10) (Some c) (omega arith)
      (omega arith))))))))) (omega arith)

  -- one below a hundred, with a space for a nought
  pub prints_two : (i n : ℕ) (k : Work) (last : Option ℕ) → i < 140 → n < 100
      → Path (frame z) (day_orders n - 16) (at m 234 (to 28 i) (record k { first_power = to 12 316; number = n }) last)
      ((if nat_lt n 10 then 20 else n / 10) ∷ n % 10 ∷ [])
      (at m (i + 2) 0 (left_by_two i n (record k { first_power = to 12 316 })) (Some (n % 10)))
  prints_two i n k last low few =
      let k0 : Work = record k { first_power = to 12 316; print_link = to 3 (i + 2) } in
      let first = begins i 2 (record k { number = n }) last (omega arith) (lit< tt) in
      elim (cases_lt n 10) [
        | inl one ↦
            let test = lt-ltb n 10 one in
            let unit : n % 10 ≡ n = omega arith in
            rw (test, unit) (followed first
            (followed (leaves_out 2 k0 0 n 0 last (lit< tt) one (lit< tt) (omega arith))
            (followed (obeys 265 0 (G_stays 239 ∷ []) refl (omega arith))
            (units (i + 2) (next 3 (record k0 { figure = 0; shown = 0; scrap = 126976 })) n (Some 20) (omega arith)
            one))))
        | inr two ↦
            let test = le-ltb n 10 two in
            let c : ℕ = n / 10 in
            rw test (Path-counted (followed first
            (followed (shows 2 c n (n % 10) k0 0 0 0 last (lit< tt) (omega arith) (omega arith) (omega arith)
            (omega arith) (lit< tt) (omega arith) (lit≤ tt) (omega arith))
            (followed (obeys 265 0 (G_stays 239 ∷ []) refl (omega arith))
            (units (i + 2) (next 3 (record k0 { figure = 4096 * c; shown = 4096; scrap = 0 })) (n % 10) (Some c)
            (omega arith) (omega arith))))) (omega arith))
      ]
