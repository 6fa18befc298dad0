-- The routine `read`, by its listing.
use Rattle.ed_routines.proofs.Kit.{A_F, E_F, L_D, S_F, T_F, U_F, Moment, short, A, E_jumps, L, S, T, U, on, Path, stay}
use Rattle.ed_routines.proofs.Kit.{any, early, out, own, LD, [], arith, get_or, length, List, lit<, refl, set, ℕ, ◌%◌}
use Rattle.ed_routines.proofs.Kit.{◌*◌, ◌++◌, ◌+◌, ◌-◌, ◌<◌, ◌^◌, ◌∷◌, ◌≡◌, ◌≤◌, locations_most, digits_value}
use Rattle.ed_routines.proofs.Kit.{value_after}
use Rattle.ed_words.specs.declared.order_words.TheConstants.{I_F}
use Rattle.ed_machine.proofs.Kit.Moves.{I, E_stays}
use Rattle.ed_machine.proofs.Kit.Orders.{word_is}
use Rattle.ed_machine.proofs.Kit.Paths.{followed}
use Rattle.ed_machine.proofs.Kit.Places.{IsOutside}
use Rattle.ed_machine.proofs.Kit.Shifts.{L1F}
use Rattle.ed_machine.proofs.Kit.Sums.{Remains}
use Rattle.ed_routines.proofs.Called.{Call, moment}

-- the cells that change: the order that returns, the number so far, the row, and a spare cell
pub record Work : Type 0 where
  pub at19 : ℕ
  pub at21 : ℕ
  pub at22 : ℕ
  pub at23 : ℕ

-- its words
abbrev pub cells : ℕ → ℕ → Work → List ℕ
cells b h w =
    114694 ∷ (T_F + 2 * (b + 19)) ∷ (T_F + 2 * (b + 21)) ∷ (I_F + 2 * (b + 22)) ∷ (A_F + 2 * (b + 22))
    ∷ (S_F + 2 * (b + 20)) ∷ (E_F + 2 * (b + 16)) ∷ (T_F + 2 * (b + 23)) ∷ (A_F + 2 * (b + 21)) ∷ L_D
    ∷ (U_F + 2 * (b + 23)) ∷ 102402 ∷ (A_F + 2 * (b + 23)) ∷ (A_F + 2 * (b + 22)) ∷ (T_F + 2 * (b + 21))
    ∷ (E_F + 2 * (b + 3)) ∷ (T_F + 2 * (b + 23)) ∷ (A_F + 2 * (b + 21)) ∷ (T_F + 2 * h) ∷ w.at19
    ∷ 10 ∷ w.at21 ∷ w.at22 ∷ w.at23 ∷ []

-- the cells after digit rows that follow a number
abbrev pub worked : ℕ → List ℕ → Work → Work
worked n [] w = w
worked n (d ∷ ds) w = worked (10 * n + d) ds (record w {
  at21 = (10 * n + d) % 2 ^ 17;
  at22 = d;
  at23 = (2 * n) % 2 ^ 17;
})

-- digit rows
pub data Digits : List ℕ → Type 0 where
  none : Digits []
  more : {d : ℕ} {ds : List ℕ} → d < 10 → Digits ds → Digits (d ∷ ds)

-- words around the routine, which is called with the location h
pub record Around (call : Call 24 0) (h : ℕ) (ws : List ℕ) : Type 0 where
  pub all : length ws ≡ 1024
  pub at3 : get_or ws 3 0 ≡ 28676
  pub room : call.from + 3 ≤ call.frame.top
  pub away : IsOutside call.frame ws h

-- the arithmetic of a digit row: each number at the upper end of the accumulator
taken : (v : ℕ) → v < 2 ^ 17 → (0 + v * 2 ^ 18 * 2 ^ 36) % 2 ^ 71 ≡ v * 2 ^ 54
taken v low = omega arith

less_ten : (c : ℕ) → c < 10 → Remains (c * 2 ^ 54) (10 * 2 ^ 18 * 2 ^ 36) ((c + (2 ^ 17 - 10)) * 2 ^ 54)
less_ten c low = (omega arith, omega arith)

is_high : (c : ℕ) → 2 ^ 70 ≤ (c + (2 ^ 17 - 10)) * 2 ^ 54
is_high c = omega arith

doubled : (v x : ℕ) → (2 * v) % 2 ^ 17 ≡ x → v * 2 ^ 54 * 2 ^ 1 % 2 ^ 71 ≡ x * 2 ^ 54
doubled v x is = omega arith

eightfold : (v x : ℕ) → (2 * v) % 2 ^ 17 ≡ x → x * 2 ^ 54 * 2 ^ 2 % 2 ^ 71 ≡ ((8 * v) % 2 ^ 17) * 2 ^ 54
eightfold v x is = omega arith

tenfold : (v x : ℕ) → (2 * v) % 2 ^ 17 ≡ x
    → (((8 * v) % 2 ^ 17) * 2 ^ 54 + x * 2 ^ 18 * 2 ^ 36) % 2 ^ 71 ≡ ((10 * v) % 2 ^ 17) * 2 ^ 54
tenfold v x is = omega arith

with_digit : (v c u : ℕ) → (10 * v + c) % 2 ^ 17 ≡ u
    → (((10 * v) % 2 ^ 17) * 2 ^ 54 + c * 2 ^ 18 * 2 ^ 36) % 2 ^ 71 ≡ u * 2 ^ 54
with_digit v c u is = omega arith

module _ (call : Call 24 0) (h : ℕ) where
  open call use {frame as f, behind, from as m}

  abbrev pub run : List ℕ → Work → ℕ → ℕ → List ℕ → Moment
  run ws w v i tape = record (moment call ws (cells f.base h w) v i) { tape = tape }

  -- a digit row
  digit : {ws rest : List ℕ} {c : ℕ} (w : Work) (v u x : ℕ) → w.at21 ≡ v → v < 2 ^ 17 → c < 10
      → ((2 * v) % 2 ^ 17 ≡ x) × ((10 * v + c) % 2 ^ 17 ≡ u)
      → Path f 13 (run ws w 0 3 (c ∷ rest)) [] (run ws (record w { at21 = u; at22 = c; at23 = x }) 0 3 rest)
  digit {c = c} w v u x is low d sums =
      let twice = sums.0 in
      let sum = sums.1 in
      on (I 3 (own 22) c refl refl refl)
      (on (A 4 (own 22) (short c) refl (taken c (omega arith)))
      (on (S 5 (own 20) (short (c + (2 ^ 17 - 10))) refl (less_ten c d))
      (on (E_stays 6 (own 16) refl (is_high c))
      (on (T 7 (own 23) _ refl refl)
      (on (A 8 (own 21) (short v) refl (rw is (taken v low)))
      (on (L 9 LD (short x) refl (doubled v x twice))
      (on (U 10 (own 23) _ refl refl)
      (on (L 11 L1F (short ((8 * v) % 2 ^ 17)) refl (eightfold v x twice))
      (on (A 12 (own 23) (short ((10 * v) % 2 ^ 17)) refl (tenfold v x twice))
      (on (A 13 (own 22) (short u) refl (with_digit v c u sum))
      (on (T 14 (own 21) _ refl refl)
      (on (E_jumps 15 (own 3) refl (lit< tt)) stay))))))))))))

  digits : (ws : List ℕ) (n : ℕ) (w : Work) (ds rest : List ℕ) → Digits ds → w.at21 ≡ n % 2 ^ 17
      → Path f (13 * length ds) (run ws w 0 3 (ds ++ rest)) [] (run ws (worked n ds w) 0 3 rest)
  digits ws n w [] rest ok is = stay
  digits ws n w (d ∷ ds) rest (more low ok) is =
      let e : 13 * length (d ∷ ds) ≡ 13 + 13 * length ds = omega arith in
      let first = digit {ws = ws} {rest = ds ++ rest} w (n % 2 ^ 17) ((10 * n + d) % 2 ^ 17) ((2 * n) % 2 ^ 17) is
      (omega arith) low (omega arith, omega arith) in
      rw e (followed first
      (digits ws (10 * n + d) (record w { at21 = (10 * n + d) % 2 ^ 17; at22 = d; at23 = (2 * n) % 2 ^ 17 }) ds
      rest ok refl))

  -- the order that returns is made, and the number begins with 0
  abbrev pub opened_work : Work → Work
  opened_work w = record w { at19 = E_F + 2 * (m + 2); at21 = 0 }

  opened : {ws : List ℕ} (w : Work) (tape : List ℕ) → Around call h ws
      → Path f 3 (run ws w (A_F + 2 * m) 0 tape) [] (run ws (opened_work w) 0 3 tape)
  opened w tape around =
      let b = locations_most f.size in
      let fits = f.fits in
      let room = around.room in
      let at3 = around.at3 in
      on (A 0 (out 3 (early 3 behind (lit< tt) around.all)) (short (E_F + 2 * (m + 2))) refl (omega arith))
      (on (T 1 (own 19) _ refl refl)
      (on (T 2 (own 21) _ refl refl) stay))

  -- an ending row
  closed : {ws rest : List ℕ} {c v : ℕ} (w : Work) → Around call h ws → w.at19 ≡ E_F + 2 * (m + 2)
      → w.at21 ≡ v → v < 2 ^ 17 → 10 ≤ c → c < 32
      → Path f 8 (run ws w 0 3 (c ∷ rest)) []
      (record (run (set ws h v) (record w { at22 = c; at23 = c - 10 }) 0 0 rest) { counter = m + 2 })
  closed {c = c} {v} w around link is low end code =
      let room = around.room in
      let there : m + 2 < f.top = omega arith in
      on (I 3 (own 22) c refl refl refl)
      (on (A 4 (own 22) (short c) refl (omega arith))
      (on (S 5 (own 20) (short (c - 10)) refl (omega arith))
      (on (E_jumps 6 (own 16) refl (omega arith))
      (on (T 16 (own 23) _ refl refl)
      (on (A 17 (own 21) (short v) refl (omega arith))
      (on (T 18 (out h around.away) _ refl refl)
      (on (E_jumps 19 (any (m + 2) there) (word_is link) (lit< tt)) stay)))))))

  link_kept : (n : ℕ) (ds : List ℕ) (w : Work) → (worked n ds w).at19 ≡ w.at19
  link_kept n [] w = refl
  link_kept n (d ∷ ds) w = link_kept (10 * n + d) ds (record w {
    at21 = (10 * n + d) % 2 ^ 17;
    at22 = d;
    at23 = (2 * n) % 2 ^ 17;
  })

  value_kept : (n : ℕ) (ds : List ℕ) (w : Work) → w.at21 ≡ n % 2 ^ 17
      → (worked n ds w).at21 ≡ value_after n ds % 2 ^ 17
  value_kept n [] w e = e
  value_kept n (d ∷ ds) w e =
      value_kept (10 * n + d) ds (record w { at21 = (10 * n + d) % 2 ^ 17; at22 = d; at23 = (2 * n) % 2 ^ 17 }) refl

  -- the whole routine
  abbrev pub last_work : List ℕ → ℕ → Work → Work
  last_work ds c w = record (worked 0 ds (opened_work w)) { at22 = c; at23 = c - 10 }

  pub Path-whole : {ws ds : List ℕ} {c : ℕ} (w : Work) (rest : List ℕ) → Around call h ws → Digits ds → 10 ≤ c → c < 32
      → Path f (11 + 13 * length ds) (run ws w (A_F + 2 * m) 0 (ds ++ c ∷ rest)) []
      (record (run (set ws h (digits_value ds % 2 ^ 17)) (last_work ds c w) 0 0 rest) { counter = m + 2 })
  Path-whole {ws} {ds} {c} w rest around ok end code =
      let start : Work = opened_work w in
      let e : 11 + 13 * length ds ≡ 3 + (13 * length ds + 8) = omega arith in
      rw e (followed (opened w (ds ++ c ∷ rest) around)
      (followed (digits ws 0 start ds (c ∷ rest) ok refl)
      (closed (worked 0 ds start) around (link_kept 0 ds start) (value_kept 0 ds start refl) (omega arith) end code)))

  -- the tape that ends
  pub until_end : {ws ds : List ℕ} (w : Work) → Around call h ws → Digits ds
      → Path f (3 + 13 * length ds) (run ws w (A_F + 2 * m) 0 (ds ++ [])) []
      (run ws (worked 0 ds (opened_work w)) 0 3 [])
  until_end {ws} {ds} w around ok =
      followed (opened w (ds ++ []) around) (digits ws 0 (opened_work w) ds [] ok refl)
