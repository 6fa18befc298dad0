-- The program of `examples/decimals.edsac` from its entry to its stop: a decimal, a group, a line.
use Rattle.ed_programs.proofs.Kit.{before_order, div-lt_iff_lt-mul, get_or-set_other, get_or-set_same, length-set}
use Rattle.ed_programs.proofs.Kit.{mod-lt, div-add-mod, A_F, L_D, T_F, Z_F, Size, Z, L1F, L512F, Remains, set, along}
use Rattle.ed_programs.proofs.Kit.{to_stop, LD, followed, frame_at, [], ap, append-nil, arith, get_or, length, List}
use Rattle.ed_programs.proofs.Kit.{lit<, lit≤, Option, refl, rules, Some, subst, suc, sym, zero, ℕ, ◌%◌, ◌*◌, ◌+◌, ◌-◌}
use Rattle.ed_programs.proofs.Kit.{◌/◌, ◌<◌, ◌^◌, ◌∙◌, ◌∷◌, ◌≡◌, ◌≤◌, locations_least, Frame, Moment, short, state}
use Rattle.ed_programs.proofs.Kit.{Path, stay, ReachesStop, replicate, carries, tenfold, to, Path-counted}
use Rattle.ed_programs.proofs.DecimalsPass.{after, after_long, line_codes, line_left, line_long, line_orders, page_left}
use Rattle.ed_programs.proofs.DecimalsPass.{page_codes, page_orders, tenfold_long, units}
use Rattle.ed_programs.proofs.Orders.{A, A_high, A_low, E_by, E_jumps, E_stays, G_jumps, G_stays, L, O, S, S_low, T}
use Rattle.ed_programs.proofs.Orders.{T_high, U, obeys}

-- the cells that change as a decimal is worked out, and those that count: the decimals left of a group, the groups of a
-- line, and the lines
pub record Work : Type 0 where
  pub plant : ℕ
  pub load : ℕ
  pub store : ℕ
  pub digit : ℕ
  pub divisor : ℕ
  pub carry : ℕ
  pub rest : ℕ
  pub scrap : ℕ
  pub link : ℕ

pub record Counts : Type 0 where
  pub group : ℕ
  pub line : ℕ
  pub lines : ℕ

-- as they are loaded
abbrev pub loaded : Work
loaded = record {
  plant = T_F + 2 * 163;
  load = 115014;
  store = 20806;
  digit = 0;
  divisor = 0;
  carry = 0;
  rest = 0;
  scrap = 0;
  link = 0;
}

abbrev pub none_done : Counts
none_done = record { group = 131062; line = 131067; lines = 131070 }

-- its words from 56 on, those of `newline` after it too; the list is behind them
abbrev pub cells : Work → Counts → List ℕ
cells k c =
    to 9 79 ∷ to 9 80 ∷ to 9 81 ∷ to 28 3 ∷ to 27 100 ∷ to 5 95 ∷ to 28 87 ∷ k.plant ∷ to 28 7 ∷ 114692 ∷ to 7 7
    ∷ to 12 96 ∷ to 27 5
    ∷ to 5 95 ∷ to 28 97 ∷ to 5 22 ∷ to 28 98 ∷ to 5 40 ∷ to 28 91 ∷ to 5 92 ∷ to 5 93
    ∷ to 5 95 ∷ k.load ∷ L_D ∷ to 7 94 ∷ 102402 ∷ to 28 94 ∷ to 28 93 ∷ to 5 94 ∷ to 5 93 ∷ to 28 94
    ∷ to 12 92 ∷ to 27 39 ∷ to 5 94 ∷ to 28 93 ∷ to 28 87 ∷ to 5 93 ∷ to 28 94 ∷ to 3 31
    ∷ to 28 92 ∷ k.store ∷ to 28 22 ∷ 49156 ∷ to 5 22 ∷ to 28 40 ∷ 49156 ∷ to 5 40 ∷ to 28 92 ∷ to 12 87 ∷ to 7 92
    ∷ to 12 88 ∷ to 3 21
    ∷ to 5 95 ∷ to 28 93 ∷ 103424 ∷ L_D ∷ to 5 83 ∷ to 9 83 ∷ to 28 84 ∷ to 28 87 ∷ to 7 84 ∷ to 27 13
    ∷ to 12 90 ∷ to 5 84 ∷ to 28 85 ∷ to 28 87 ∷ to 7 85 ∷ to 3 70 ∷ to 9 82 ∷ to 27 13
    ∷ to 12 89 ∷ to 5 85 ∷ to 28 72 ∷ to 27 100 ∷ to 28 86 ∷ to 28 87 ∷ to 7 86 ∷ to 27 13 ∷ Z_F
    ∷ 45056 ∷ 8192 ∷ 94208 ∷ 81920 ∷ k.digit ∷ c.group ∷ c.line ∷ c.lines ∷ 1 ∷ 2 ∷ 5 ∷ 10 ∷ 75
    ∷ k.divisor ∷ k.carry ∷ k.rest ∷ k.scrap ∷ 20954 ∷ 115160 ∷ 20952 ∷ 0
    ∷ 114694 ∷ to 5 104 ∷ to 9 105 ∷ to 9 106 ∷ k.link ∷ 73728 ∷ 98304 ∷ []

-- numerators are in words from a location on, each below its divisor
abbrev pub Stand : List ℕ → ℕ → ℕ → List ℕ → Type 0
Stand ws q d [] = Unit {0}
Stand ws q d (n ∷ ns) = (get_or ws q 0 ≡ n) × (n < d) × Stand ws (suc q) (suc d) ns

stand_kept : (ws words : List ℕ) (q d : ℕ) (ns : List ℕ) → ((a : ℕ) → q ≤ a → get_or words a 0 ≡ get_or ws a 0)
    → Stand ws q d ns → Stand words q d ns
stand_kept ws words q d [] same o = tt
stand_kept ws words q d (n ∷ ns) same o = (
  same q (omega arith) ∙ o.0,
  o.1,
  stand_kept ws words (suc q) (suc d) ns (λ a low. same a (omega arith)) o.2,
)

stand_after : (ws : List ℕ) (q d r : ℕ) (ns : List ℕ) → length ws ≡ 1024 → q < 1024 → r < d
    → Stand ws (suc q) (suc d) ns → Stand (set ws q r) q d (r ∷ ns)
stand_after ws q d r ns all low less o = search (rules, get_or-set_same, stand_kept, get_or-set_other)

-- the words around it
pub record IsAround (ws : List ℕ) : Type 0 where
  pub all : length ws ≡ 1024
  pub at2 : get_or ws 2 0 ≡ 2
  pub at3 : get_or ws 3 0 ≡ 28676

-- the numerator at a location changes
around_set : (ws : List ℕ) (q v : ℕ) → 162 ≤ q → IsAround ws → IsAround (set ws q v)
around_set ws q v high o = search (rules, length-set, get_or-set_other)

-- a numerator with its carry, divided
record Divided (x d : ℕ) : Type 0 where
  is : x ≡ d * (x / d) + x % d
  few : x / d ≤ 9
  left : x % d < d

divided : (n c d : ℕ) → n < d → c ≤ 9 → Divided (10 * n + c) d
divided n c d less few = search (rules, div-lt_iff_lt-mul, div-add-mod, mod-lt)

module _ (z : Size) (m : Moment) where
  abbrev pub f : Frame 107 0
  f = frame_at 107 z (lit≤ tt)

  abbrev pub at : ℕ → List ℕ → ℕ → Work → Counts → Option ℕ → Moment
  at i ws v k c last = record (before_order m (56 + i) v (cells k c)) { words = ws; last = last }

  module _ (c : Counts) (last : Option ℕ) where
    abbrev now : ℕ → List ℕ → ℕ → Work → Moment
    now i ws v k = at i ws v k c last

    -- ---- the division, by taking the divisor away

    abbrev dividing : Work → ℕ → ℕ → ℕ → Work
    dividing k e x y = record k { rest = x; carry = y; divisor = suc e }

    takes : (ws : List ℕ) (k : Work) (e r : ℕ) → r ≤ e → e ≤ 74 → (j x y w : ℕ) → x ≡ suc e * j + r → x < 800
        → y + j ≡ w → w ≤ 9 → Path f (3 + 8 * j) (now 31 ws x (dividing k e x y)) [] (now 40 ws r (dividing k e r w))
    takes ws k e r least_r most_e zero x y w is low sum few =
        let same : x ≡ r = omega (arith, is) in
        let carried : y ≡ w = omega (arith, sum) in
        let path : Path f 3 (now 31 ws r (dividing k e r w)) [] (now 40 ws r (dividing k e r w)) =
        obeys 31 r (S 92 (131072 - (suc e - r)) ∷ G_jumps 39 ∷ A 92 r ∷ []) refl (omega arith) in
        rw (same, carried) path
    takes ws k e r least_r most_e (suc j) x y w is low sum few =
        let more : suc e ≤ x = omega (arith, is) in
        let next : x - suc e ≡ suc e * j + r = omega (arith, is) in
        Path-counted
        (followed (obeys 31 x (S 92 (x - suc e) ∷ G_stays 39 ∷ T 94 ∷ A 93 y ∷ A 87 (y + 1) ∷ T 93 ∷ A 94 (x - suc e)
        ∷ E_jumps 31 ∷ []) refl (omega arith))
        (takes ws k e r least_r most_e j (x - suc e) (y + 1) w next (omega arith) (omega arith) few))
        (omega arith)

    -- ---- one numerator, at p + 1, by the divisor e + 1

    abbrev begun : Work → ℕ → ℕ → ℕ → Work
    begun k top most carry = record k {
      load = A_F + 2 * top;
      store = T_F + 2 * top;
      divisor = most;
      carry = carry;
    }

    turn : (ws : List ℕ) (k : Work) (p e n y v u j r : ℕ) → IsAround ws → get_or ws (suc p) 0 ≡ n → n < suc e → y ≤ 9
        → 162 ≤ p → p < 236 → 1 ≤ e → e ≤ 74 → v < 131072 → Remains (short e) (2 * 2 ^ 18 * 2 ^ 36) (short u)
        → 10 * n + y ≡ suc e * j + r → r < suc e → j ≤ 9
        → Path f (24 + 8 * j) (now 21 ws v (begun k (suc p) (suc e) y)) []
        (now 51 (set ws (suc p) r) u (begun (record k { rest = r; scrap = v }) p e j))
    turn ws k p e n y v u j r o here less few_y low high some most_e small left is rest few =
        let size = locations_least z in
        let words : List ℕ = set ws (suc p) r in
        let after = around_set ws (suc p) r (omega arith) o in
        let all = after.all in let at2 = after.at2 in
        Path-counted
        (followed (obeys 21 v (T 95 ∷ A_high (suc p) n ∷ L LD (2 * n) ∷ U 94 ∷ L L1F (8 * n) ∷ A 94 (10 * n)
        ∷ A 93 (10 * n + y) ∷ T 94 ∷ T 93 ∷ A 94 (10 * n + y) ∷ []) refl (omega arith))
        (followed (takes ws (record (begun k (suc p) (suc e) 0) { scrap = v }) e r (omega arith) most_e j (10 * n + y) 0
        j is (omega arith) (omega arith) few)
        (obeys 40 r (T_high (suc p) ∷ A 22 (A_F + 2 * suc p) ∷ S_low 2 (A_F + 2 * p) ∷ T 22 ∷ A 40 (T_F + 2 * suc p)
        ∷ S_low 2 (T_F + 2 * p) ∷ T 40 ∷ A 92 (suc e) ∷ S 87 e ∷ U 92 ∷ S 88 u ∷ []) refl (omega arith)))) (omega arith)

    -- ---- all numerators from p + 1 on, the last one first, but not the one of the divisor 2

    record Passed (ws : List ℕ) (k : Work) (p e top most v : ℕ) (ns : List ℕ) : Type 0 where
      words : List ℕ
      rest : ℕ
      scrap : ℕ
      acc : ℕ
      low : acc < 131072
      around : IsAround words
      keeps : (a : ℕ) → a ≤ p → get_or words a 0 ≡ get_or ws a 0
      stand : Stand words (suc p) (suc e) (tenfold (suc e) ns).left
      few : (tenfold (suc e) ns).carry ≤ 9
      path : Path f (25 * length ns + 8 * (tenfold (suc e) ns).units) (now 21 ws v (begun k top most 0)) []
          (now 21 words acc (begun (record k { rest = rest; scrap = scrap }) p e (tenfold (suc e) ns).carry))

    passes : (ns : List ℕ) (ws : List ℕ) (k : Work) (p e top most v : ℕ) → IsAround ws → Stand ws (suc p) (suc e) ns
        → p + length ns ≡ top → e + length ns ≡ most → top ≤ 236 → most ≤ 75 → 162 ≤ p → 2 ≤ e → v < 131072
        → Passed ws k p e top most v ns
    passes [] ws k p e top most v o there ends divisors high few low some small =
        let first : top ≡ p = omega (arith, ends) in
        let second : most ≡ e = omega (arith, divisors) in
        record {
          words = ws;
          rest = k.rest;
          scrap = k.scrap;
          acc = v;
          low = small;
          around = o;
          keeps = λ a l. refl;
          stand = tt;
          few = lit≤ tt;
          path = rw (first, second) stay;
        }
    passes (n ∷ ns) ws k p e top most v o there ends divisors high few low some small =
        let rest = passes ns ws k (suc p) (suc e) top most v o there.2 (omega (arith, ends)) (omega (arith, divisors))
        high few (omega arith) (omega arith) small in
        let y : ℕ = (tenfold (suc (suc e)) ns).carry in
        let x : ℕ = 10 * n + y in
        let is = divided n y (suc e) there.1 rest.few in
        record {
          words = set rest.words (suc p) (x % suc e);
          rest = x % suc e;
          scrap = rest.acc;
          acc = e - 2;
          low = omega (arith, divisors, few);
          around = around_set rest.words (suc p) (x % suc e) (omega arith) rest.around;
          keeps = λ a l. get_or-set_other rest.words (suc p) a (x % suc e) 0 (λ i. absurd (omega (arith, i, l)))
              ∙ rest.keeps a (omega (arith, l));
          stand = stand_after rest.words (suc p) (suc e) (x % suc e) (tenfold (suc (suc e)) ns).left rest.around.all
              (omega (arith, ends, high)) is.left rest.stand;
          few = is.few;
          path = Path-counted (followed rest.path (followed
              (turn rest.words (record k { rest = rest.rest; scrap = rest.scrap }) p e n y rest.acc (e - 2) (x / suc e)
              (x % suc e) rest.around (rest.keeps (suc p) (omega arith) ∙ there.0) there.1 rest.few low
              (omega (arith, ends, high)) (omega (arith, some)) (omega (arith, divisors, few)) rest.low
              (omega (arith, some, divisors, few)) is.is is.left is.few)
              (obeys 51 (e - 2) (E_jumps 21 ∷ []) refl (omega (arith, divisors, few))))) (omega arith);
        }

  -- ---- what is so after a number of orders: these numerators are left, and the counts are these

  record Holding (left : List ℕ) : Type 0 where
    words : List ℕ
    work : Work
    last : Option ℕ
    around : IsAround words
    stand : Stand words 163 2 left

  abbrev Reached : Moment → ℕ → ℕ → Counts → ℕ → List ℕ → List ℕ → Type 0
  Reached start i u c orders codes left =
      (x : Holding left) × Path f orders start codes (at i x.words u x.work c x.last)

  -- after orders that print nothing
  quietly : {r next t : Moment} {a b n : ℕ} {codes : List ℕ} → Path f a r codes next → Path f b next [] t → a + b ≡ n
      → Path f n r codes t
  quietly {r} {t = t} {n = n} {codes} one two count =
      subst (λ cs. Path f n r cs t) (append-nil codes) (Path-counted (followed one two) count)

  -- ---- a decimal

  shows : (ns : List ℕ) (ws : List ℕ) (k : Work) (c : Counts) (last : Option ℕ) (v gg : ℕ) → IsAround ws
      → Stand ws 163 2 ns → length ns ≡ 74 → v < 131072 → ((short c.group + 2 ^ 18 * 2 ^ 36) % 2 ^ 71 ≡ short gg)
      → c.group < 131072
      → Reached (at 13 ws v k c last) 61 gg (record c { group = gg }) (1867 + 8 * (tenfold 2 ns).units)
      ((tenfold 2 ns).carry ∷ []) (tenfold 2 ns).left
  shows [] ws k c last v gg o there long small sum low = absurd (omega arith)
  shows (n ∷ ns) ws k c last v gg o there long small sum low =
      let all = passes c last ns ws (record k { scrap = v }) 163 2 236 75 0 o there.2 (omega (arith, long))
      (omega (arith, long)) (lit≤ tt) (lit≤ tt) (lit≤ tt) (lit≤ tt) (lit< tt) in
      let y : ℕ = (tenfold 3 ns).carry in
      let x : ℕ = 10 * n + y in
      let is = divided n y 2 there.1 all.few in
      let words : List ℕ = set all.words 163 (x % 2) in
      let few = is.few in
      let after : Work = begun c last (record k { rest = x % 2; scrap = 131071 }) 162 1 (x / 2) in (
        record {
          words = words;
          work = record after { digit = 4096 * (x / 2) };
          last = Some (x / 2);
          around = around_set all.words 163 (x % 2) (lit≤ tt) all.around;
          stand = stand_after all.words 163 2 (x % 2) (tenfold 3 ns).left all.around.all (omega arith) is.left
              all.stand;
        },
        Path-counted
            (followed (obeys 13 v (T 95 ∷ A 97 (A_F + 2 * 236) ∷ T 22 ∷ A 98 (T_F + 2 * 236) ∷ T 40 ∷ A 91 75 ∷ T 92
            ∷ T 93 ∷ []) refl (omega arith))
            (followed all.path
            (followed (turn c last all.words (record k { rest = all.rest; scrap = all.scrap }) 162 1 n y all.acc 131071
            (x / 2) (x % 2) all.around (all.keeps 163 (lit≤ tt) ∙ there.0) there.1 all.few (lit≤ tt) (lit< tt) (lit≤ tt)
            (lit≤ tt) all.low (omega arith) is.is is.left is.few)
            (obeys 51 131071 (E_stays 21 ∷ T 95 ∷ A 93 (x / 2) ∷ L L512F (2048 * (x / 2))
            ∷ L LD (4096 * (x / 2)) ∷ T 83 ∷ O 83 (x / 2) ∷ A 84 c.group ∷ A 87 gg ∷ U 84 ∷ []) refl
            (omega (arith, few)))))) (omega (arith, long)),
      )

  -- ---- the decimals that are left of a group, the groups of a line, and the lines

  groups : (j : ℕ) (ns : List ℕ) (ws : List ℕ) (k : Work) (c : Counts) (last : Option ℕ) (v : ℕ) → IsAround ws
      → Stand ws 163 2 ns → length ns ≡ 74 → v < 131072 → j < 10
      → Reached (at 13 ws v k (record c { group = 131072 - suc j }) last) 62 0 (record c { group = 0 })
      (1868 * suc j + 8 * units (suc j) ns) (carries (suc j) ns) (after (suc j) ns)
  groups zero ns ws k c last v o there long small few =
      let one = shows ns ws k (record c { group = 131071 }) last v 0 o there long small refl (lit< tt) in
      (one.0, quietly one.1 (obeys 61 0 (G_stays 13 ∷ []) refl (omega arith)) (omega arith))
  groups (suc j) ns ws k c last v o there long small few =
      let one = shows ns ws k (record c { group = 131072 - suc (suc j) }) last v (131072 - suc j) o there long small
      (omega arith) (omega arith) in
      let x = one.0 in
      let rest = groups j (tenfold 2 ns).left x.words x.work c x.last (131072 - suc j) x.around x.stand
      (tenfold_long 2 ns ∙ long) (omega arith) (omega arith) in (
        rest.0,
        Path-counted (followed one.1 (followed (obeys 61 (131072 - suc j) (G_jumps 13 ∷ []) refl (omega arith))
            rest.1)) (omega arith),
      )

  lines_of : (j : ℕ) (ns : List ℕ) (ws : List ℕ) (k : Work) (c : Counts) (last : Option ℕ) (v : ℕ) → IsAround ws
      → Stand ws 163 2 ns → length ns ≡ 74 → v < 131072 → j < 5
      → Reached (at 13 ws v k (record c { group = 131062; line = 131072 - suc j }) last) 70 0
      (record c { group = 131062; line = 0 }) (line_orders j ns) (line_codes j ns) (line_left j ns)
  lines_of zero ns ws k c last v o there long small few =
      let one = groups 9 ns ws k (record c { line = 131071 }) last v o there long small (lit< tt) in (
        one.0,
        quietly one.1
            (obeys 62 0 (S 90 131062 ∷ T 84 ∷ A 85 131071 ∷ A 87 0 ∷ U 85 ∷ E_jumps 70 ∷ []) refl
            (omega arith)) (omega arith),
      )
  lines_of (suc j) ns ws k c last v o there long small few =
      let one = groups 9 ns ws k (record c { line = 131072 - suc (suc j) }) last v o there long small (lit< tt) in
      let x = one.0 in
      let rest = lines_of j (after 10 ns) x.words x.work c (Some 20) (131072 - suc j) x.around x.stand
      (after_long 10 ns ∙ long) (omega arith) (omega arith) in (
        rest.0,
        Path-counted (followed one.1
            (followed (obeys 62 0 (S 90 131062 ∷ T 84 ∷ A 85 (131072 - suc (suc j)) ∷ A 87 (131072 - suc j) ∷ U 85
            ∷ E_stays 70 ∷ O 82 20 ∷ G_jumps 13 ∷ []) refl (omega arith)) rest.1)) (omega arith),
      )

  -- a new line
  new_line : (ws : List ℕ) (k : Work) (c : Counts) (last : Option ℕ) (i : ℕ) → IsAround ws → i < 100
      → Path f 5 (at 100 ws (to 28 i) k c last) (18 ∷ 24 ∷ [])
      (at (i + 2) ws 0 (record k { link = to 3 (i + 2) }) c (Some 24))
  new_line ws k c last i o low =
      let size = locations_least z in let all = o.all in let at3 = o.at3 in
      obeys 100 (to 28 i) (A_low 3 (to 3 (i + 2)) ∷ T 104 ∷ O 105 18 ∷ O 106 24 ∷ E_by (i + 2) ∷ []) refl
      (omega arith)

  -- the orders after a line, up to the test
  turns_over : (ws : List ℕ) (k : Work) (c : Counts) (last : Option ℕ) (lines next : ℕ) → IsAround ws
      → lines < 131072 → ((short lines + 2 ^ 18 * 2 ^ 36) % 2 ^ 71 ≡ short next)
      → Path f 12 (at 70 ws 0 k (record c { group = 131062; line = 0; lines = lines }) last) (18 ∷ 24 ∷ [])
      (at 77 ws next (record k { link = to 3 74 }) (record c { group = 131062; line = 131067; lines = next }) (Some 24))
  turns_over ws k c last lines next o low sum =
      followed (obeys 70 0 (S 89 131067 ∷ T 85 ∷ A 72 (to 28 72) ∷ G_jumps 100 ∷ []) refl (omega arith))
      (followed (new_line ws k (record c { group = 131062; line = 131067; lines = lines }) last 72 o (lit< tt))
      (obeys 74 0 (A 86 lines ∷ A 87 next ∷ U 86 ∷ []) refl (omega arith)))

  -- the lines that are left
  pages : (j : ℕ) (ns : List ℕ) (ws : List ℕ) (k : Work) (last : Option ℕ) (v : ℕ) → IsAround ws → Stand ws 163 2 ns
      → length ns ≡ 74 → v < 131072 → j < 2
      → Reached (at 13 ws v k (record none_done { lines = 131072 - suc j }) last) 78 0 (record none_done { lines = 0 })
      (page_orders j ns) (page_codes j ns) (page_left j ns)
  pages zero ns ws k last v o there long small few =
      let one = lines_of 4 ns ws k (record none_done { lines = 131071 }) last v o there long small (lit< tt) in
      let x = one.0 in (
        record x { work = record x.work { link = to 3 74 }; last = Some 24 },
        Path-counted (followed one.1
            (followed (turns_over x.words x.work none_done x.last 131071 0 x.around (lit< tt) refl)
            (obeys 77 0 (G_stays 13 ∷ []) refl (omega arith)))) (omega arith),
      )
  pages (suc j) ns ws k last v o there long small few =
      let l : ℕ = 131072 - suc (suc j) in
      let u : ℕ = 131072 - suc j in
      let one = lines_of 4 ns ws k (record none_done { lines = l }) last v o there long small (lit< tt) in
      let x = one.0 in
      let rest = pages j (line_left 4 ns) x.words (record x.work { link = to 3 74 }) (Some 24) u x.around x.stand
      (line_long 4 ns ∙ long) (omega arith) (omega arith) in (
        rest.0,
        Path-counted (followed one.1
            (followed (turns_over x.words x.work none_done x.last l u x.around (omega arith) (omega arith))
            (followed (obeys 77 u (G_jumps 13 ∷ []) refl (omega arith)) rest.1))) (omega arith),
      )

  -- ---- the list is filled

  record Filled (ws : List ℕ) (q many v : ℕ) (k : Work) (c : Counts) (last : Option ℕ) : Type 0 where
    words : List ℕ
    work : Work
    around : IsAround words
    keeps : (a : ℕ) → a < q → get_or words a 0 ≡ get_or ws a 0
    ones : (d : ℕ) → 2 ≤ d → Stand words q d (replicate many 1)
    path : Path f (8 * many) (at 5 ws v (record k { plant = T_F + 2 * q }) c last) [] (at 13 words 0 work c last)

  -- one numerator
  plants : (ws : List ℕ) (k : Work) (c : Counts) (last : Option ℕ) (q u v : ℕ) → IsAround ws → 163 ≤ q → q < 237
      → v < 131072 → Remains (short (T_F + 2 * suc q)) (20954 * 2 ^ 18 * 2 ^ 36) (short u)
      → Path f 7 (at 5 ws v (record k { plant = T_F + 2 * q }) c last) []
      (at 12 (set ws q 1) u (record k { plant = T_F + 2 * suc q; scrap = v }) c last)
  plants ws k c last q u v o low high small left =
      let size = locations_least z in
      let now = around_set ws q 1 (omega arith) o in
      let all = now.all in let at2 = now.at2 in
      obeys 5 v (T 95 ∷ A 87 1 ∷ T_high q ∷ A 7 (T_F + 2 * q) ∷ A_low 2 (T_F + 2 * suc q) ∷ U 7 ∷ S 96 u ∷ []) refl
      (omega arith)

  fills : (j : ℕ) (ws : List ℕ) (k : Work) (c : Counts) (last : Option ℕ) (q v : ℕ) → IsAround ws → 163 ≤ q
      → q + suc j ≡ 237 → v < 131072 → Filled ws q (suc j) v k c last
  fills zero ws k c last q v o low ends small = record {
    words = set ws q 1;
    work = record k { plant = T_F + 2 * suc q; scrap = v };
    around = around_set ws q 1 (omega arith) o;
    keeps = λ a l. get_or-set_other ws q a 1 0 (λ i. absurd (omega (arith, i, l)));
    ones = λ d some. stand_after ws q d 1 [] o.all (omega (arith, ends)) some tt;
    path = followed (plants ws k c last q 0 v o low (omega (arith, ends)) small (omega (arith, ends)))
        (obeys 12 0 (G_stays 5 ∷ []) refl (omega arith));
  }
  fills (suc j) ws k c last q v o low ends small =
      let u : ℕ = 131072 - 2 * suc j in
      let rest = fills j (set ws q 1) (record k { scrap = v }) c last (suc q) u (around_set ws q 1 (omega arith) o)
      (omega arith) (omega (arith, ends)) (omega arith) in
      record {
        words = rest.words;
        work = rest.work;
        around = rest.around;
        keeps = λ a l. rest.keeps a (omega (arith, l))
            ∙ get_or-set_other ws q a 1 0 (λ i. absurd (omega (arith, i, l)));
        ones = λ d some. (
          rest.keeps q (omega arith) ∙ get_or-set_same ws q 1 0 (let all = o.all in omega (arith, ends)),
          some,
          rest.ones (suc d) (omega (arith, some)),
        );
        path = Path-counted (followed (plants ws k c last q u v o low (omega (arith, ends)) small (omega (arith, ends)))
            (followed (obeys 12 u (G_jumps 5 ∷ []) refl (omega (arith, ends))) rest.path)) (omega arith);
      }

  -- ---- the program: the list, two lines, and the stop

  pub decimals_stop : (ns : List ℕ) → replicate 74 1 ≡ ns → (ws : List ℕ) (last : Option ℕ) → IsAround ws → (done : ℕ)
      → ReachesStop (602 + page_orders 1 ns) (state f (at 0 ws 0 loaded none_done last) done)
      (11 ∷ 2 ∷ 23 ∷ 18 ∷ 24 ∷ page_codes 1 ns) 135
  decimals_stop ns is ws last o done =
      let filled = fills 73 ws (record loaded { link = to 3 5 }) none_done (Some 24) 163 0 o (lit≤ tt) refl (lit< tt) in
      let begins : Path f 602 (at 0 ws 0 loaded none_done last) (11 ∷ 2 ∷ 23 ∷ 18 ∷ 24 ∷ [])
      (at 13 filled.words 0 filled.work none_done (Some 24)) =
      followed (obeys 0 0 (O 79 11 ∷ O 80 2 ∷ O 81 23 ∷ A 3 (to 28 3) ∷ G_jumps 100 ∷ []) refl (omega arith))
      (followed (new_line ws loaded none_done (Some 23) 3 o (lit< tt)) filled.path) in
      let there : Stand filled.words 163 2 ns = subst (λ (xs : List ℕ). Stand filled.words 163 2 xs) is
      (filled.ones 2 (lit≤ tt)) in
      let long : length ns ≡ 74 = ap (λ (xs : List ℕ). length xs) (sym is) in
      let all = pages 1 ns filled.words filled.work (Some 24) 0 filled.around there long (lit< tt) (lit< tt) in
      to_stop (along (followed begins all.1)) (Z 78 Z_F refl refl) done
