-- The routine `root`, by its listing: it subtracts the odd numbers 1, 3, 5 and so on from the number, as long as it
-- can.
use Rattle.ed_maths.proofs.Kit.{A_F, E_F, G_F, R_D, S_F, T_F, G_stays, R, T_top, followed, RD, Call, moment, [], arith}
use Rattle.ed_maths.proofs.Kit.{get_or, length, List, lit<, refl, set, suc, zero, ℕ, ◌*◌, ◌+◌, ◌-◌, ◌<◌, ◌^◌, ◌∷◌, ◌≡◌}
use Rattle.ed_maths.proofs.Kit.{◌≤◌, locations_most, Moment, short, A, E_jumps, G_jumps, S, T, on, Path, stay, any}
use Rattle.ed_maths.proofs.Kit.{early, out, own}
use Rattle.ed_machine.proofs.Kit.Places.{IsOutside}

-- the words that change: the order that returns, what is left of the number, and the next odd number
pub record Work : Type 0 where
  pub at18 : ℕ
  pub at21 : ℕ
  pub at22 : ℕ

-- its words
abbrev pub cells : ℕ → ℕ → ℕ → Work → List ℕ
cells b source target w =
    114694 ∷ (T_F + 2 * (b + 18)) ∷ (A_F + 2 * source) ∷ (T_F + 2 * (b + 21)) ∷ (A_F + 2 * (b + 19))
    ∷ (T_F + 2 * (b + 22)) ∷ (A_F + 2 * (b + 21)) ∷ (S_F + 2 * (b + 22)) ∷ (G_F + 2 * (b + 14))
    ∷ (T_F + 2 * (b + 21)) ∷ (A_F + 2 * (b + 22)) ∷ (A_F + 2 * (b + 20)) ∷ (T_F + 2 * (b + 22))
    ∷ (E_F + 2 * (b + 6)) ∷ (T_F + 2 * (b + 21)) ∷ (A_F + 2 * (b + 22)) ∷ R_D ∷ (T_F + 2 * target)
    ∷ w.at18 ∷ 1 ∷ 2 ∷ w.at21 ∷ w.at22 ∷ []

-- a call of the routine, its two locations, and the words around it, with the number n at the first
pub record Given : Type 0 where
  pub call : Call 23 0
  pub source : ℕ
  pub target : ℕ
  pub ws : List ℕ
  pub n : ℕ
  pub is : get_or ws source 0 ≡ n
  pub small : n < 65536
  pub all : length ws ≡ 1024
  pub at3 : get_or ws 3 0 ≡ 28676
  pub room : call.from + 3 ≤ call.frame.top
  pub away_source : IsOutside call.frame ws source
  pub away_target : IsOutside call.frame ws target

module _ (given : Given) where
  open given use {source, target, ws, n, is, small, all, at3, room, away_source, away_target}
  open given use {call, call.{frame as f, behind, from as m}}

  abbrev pub run : List ℕ → Work → ℕ → ℕ → Moment
  run ws w v i = moment call ws (cells f.base source target w) v i

  -- with what is left of the number, and the next odd number
  abbrev pub rest : ℕ → ℕ → Work
  rest x o = record { at18 = E_F + 2 * (m + 2); at21 = x; at22 = o }

  opened : (w : Work) → Path f 6 (run ws w (A_F + 2 * m) 0) [] (run ws (rest n 1) 0 6)
  opened w =
      let b = locations_most f.size in
      let fits = f.fits in
      let third = at3 in
      let back = room in
      let number = is in
      let few = small in
      on (A 0 (out 3 (early 3 behind (lit< tt) all)) (short (E_F + 2 * (m + 2))) refl (omega arith))
      (on (T 1 (own 18) _ refl refl)
      (on (A 2 (out source away_source) (short n) refl (omega arith))
      (on (T 3 (own 21) _ refl refl)
      (on (A 4 (own 19) (short 1) refl refl)
      (on (T 5 (own 22) _ refl refl) stay)))))

  -- an odd number can be subtracted
  turn : (x y o e : ℕ) → y + o ≡ x → x < 65536 → o + 2 ≡ e
      → Path f 8 (run ws (rest x o) 0 6) [] (run ws (rest y e) 0 6)
  turn x y o e less fits next =
      on (A 6 (own 21) (short x) refl (omega arith))
      (on (S 7 (own 22) (short y) refl (omega arith))
      (on (G_stays 8 (own 14) refl (omega arith))
      (on (T 9 (own 21) _ refl refl)
      (on (A 10 (own 22) (short o) refl (omega arith))
      (on (A 11 (own 20) (short e) refl (omega arith))
      (on (T 12 (own 22) _ refl refl)
      (on (E_jumps 13 (own 6) refl (lit< tt)) stay)))))))

  loop : (j k x : ℕ) → x + k * k ≡ n → (k + j) * (k + j) ≤ n
      → Path f (8 * j) (run ws (rest x (2 * k + 1)) 0 6) []
      (run ws (rest (n - (k + j) * (k + j)) (2 * (k + j) + 1)) 0 6)
  loop zero k x sum fits =
      let a : k + 0 ≡ k = omega arith in
      let b : n - k * k ≡ x = omega arith in
      rw (a, b) stay
  loop (suc j) k x sum fits =
      let a : k + suc j ≡ k + 1 + j = omega arith in
      let b : 8 * suc j ≡ 8 + 8 * j = omega arith in
      let s : (k + suc j) * (k + suc j) ≡ k * k + (2 * k + 1) + (2 * k * j + j * j + 2 * j) = omega arith in
      let t : (k + 1) * (k + 1) ≡ k * k + (2 * k + 1) = omega arith in
      let few = small in
      rw (b, a) (followed (turn x (x - (2 * k + 1)) (2 * k + 1) (2 * (k + 1) + 1) (omega arith) (omega arith)
      (omega arith))
      (loop j (k + 1) (x - (2 * k + 1)) (omega arith) (rw (← a) fits)))

  -- the next one cannot, and is one more than twice the root
  closed : (x r : ℕ) → x < 2 * r + 1 → r < 256
      → Path f 8 (run ws (rest x (2 * r + 1)) 0 6) []
      (record (run (set ws target r) (rest (x + 2 ^ 17 - (2 * r + 1)) (2 * r + 1)) 0 0) { counter = m + 2 })
  closed x r less fits =
      let there : m + 2 < f.top = omega (arith, room) in
      on (A 6 (own 21) (short x) refl (omega arith))
      (on (S 7 (own 22) (short (x + 2 ^ 17 - (2 * r + 1))) refl (omega arith))
      (on (G_jumps 8 (own 14) refl (omega arith))
      (on (T 14 (own 21) _ refl refl)
      (on (A 15 (own 22) (short (2 * r + 1)) refl (omega arith))
      (on (R 16 RD ((2 * r + 1) * 2 ^ 53) refl (omega arith))
      (on (T_top 17 (out target away_target) r refl (omega arith))
      (on (E_jumps 18 (any (m + 2) there) refl (lit< tt)) stay)))))))

  pub Path-whole : (w : Work) (r : ℕ) → r * r ≤ n → n < (r + 1) * (r + 1) → r < 256
      → Path f (14 + 8 * r) (run ws w (A_F + 2 * m) 0) []
      (record (run (set ws target r) (rest (n - r * r + 2 ^ 17 - (2 * r + 1)) (2 * r + 1)) 0 0) { counter = m + 2 })
  Path-whole w r below above fits =
      let e : 14 + 8 * r ≡ 6 + (8 * r + 8) = omega arith in
      let t : (r + 1) * (r + 1) ≡ r * r + (2 * r + 1) = omega arith in
      let z : 0 + r ≡ r = omega arith in
      let middle : Path f (8 * r) (run ws (rest n 1) 0 6) [] (run ws (rest (n - r * r) (2 * r + 1)) 0 6)
      = rw z at (loop r 0 n (omega arith) (rw z below)) in
      rw e (followed (opened w) (followed middle (closed (n - r * r) r (omega arith) fits)))
