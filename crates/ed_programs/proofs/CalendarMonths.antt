-- The count of the months in `examples/calendar.tape`, and the sevens that are taken away.
use Rattle.ed_programs.proofs.Kit.{sum, Size, followed, [], arith, get_or, length, List, Option, refl, suc, take, zero}
use Rattle.ed_programs.proofs.Kit.{ℕ, ◌%◌, ◌*◌, ◌+◌, ◌-◌, ◌/◌, ◌<◌, ◌∙◌, ◌∷◌, ◌≡◌, sum_by-cons, Moment, Path, to}
use Rattle.ed_programs.proofs.Kit.{Path-counted}
use Rattle.std.proofs.lemmas.List.{length-take-le}
use Rattle.ed_programs.proofs.CalendarCells.{at, cells, frame, have_part, length_at, lengths, Have, Work, IsAround}
use Rattle.ed_programs.proofs.Orders.{A, A_by, A_low, E_jumps, E_stays, S, T, obeys}

module _ (z : Size) (m : Moment) (o : IsAround m.words) where
  -- j months to go, from the month i on; the weekday is w
  abbrev months_left : ℕ → ℕ → ℕ → Work → Work
  months_left j i w k = record k { count = (131072 - j) % 131072; weekday = w; adds_month = to 28 (324 + i) }

  -- the months that are left, up to month e; the weekday is then u
  months : (ls : List ℕ) (k : Work) (i e w u : ℕ) (last : Option ℕ) → Have (lengths k.february) i ls → i + length ls ≡ e
      → e < 12 → w + sum ls ≡ u → u < 60000
      → Path (frame z) (3 + 12 * length ls) (at m 45 0 (months_left (length ls) i w k) last) []
      (at m 57 0 (record (months_left 0 e u k) { scrap = 0 }) last)
  months [] k i e w u last have ends few total small =
      let here : i ≡ e = omega (arith, ends) in
      let none : sum [] ≡ 0 = refl in
      let same : w ≡ u = omega (arith, total, none) in
      let path : Path (frame z) 3 (at m 45 0 (months_left 0 e u k) last) []
      (at m 57 0 (record (months_left 0 e u k) { scrap = 0 }) last) =
      obeys 45 0 (T 300 ∷ A 306 0 ∷ E_jumps 57 ∷ []) refl (omega arith) in
      rw (here, same) path
  months (l ∷ ls) k i e w u last have ends few total small =
      let at2 = o.at2 in
      let j : ℕ = length ls in
      let whole = sum_by-cons (λ x. x) l ls in
      let k0 : Work = record (months_left j i w k) { scrap = 0 } in
      let word : get_or (cells k0) (324 + i) 0 ≡ l = length_at k0 i ∙ have.0 in
      Path-counted
      (followed (obeys 45 0 (T 300 ∷ A 306 (131072 - suc j) ∷ E_stays 57 ∷ A 299 ((131072 - j) % 131072) ∷ T 306
      ∷ A 296 w ∷ A_by (324 + i) (w + l) ∷ T 296 ∷ A 51 (to 28 (324 + i)) ∷ A_low 2 (to 28 (324 + suc i)) ∷ T 51
      ∷ E_jumps 45 ∷ []) refl (omega (arith, word, ends, few, total, small, whole)))
      (months ls (record k { scrap = 0 }) (suc i) e (w + l) u last have.1 (omega (arith, ends)) few
      (omega (arith, total, whole)) small)) (omega arith)

  -- all of them, before the month i + 1, whose length is l; the weekday is then v
  pub counts_months : (i w l v : ℕ) (k : Work) (last : Option ℕ) → k.month ≡ suc i → i < 12
      → get_or (lengths k.february) i 0 ≡ l → l < 100 → w + sum (take i (lengths k.february)) ≡ v → v < 60000
      → Path (frame z) (12 + 12 * i) (at m 40 0 (record k { weekday = w }) last) []
      (at m 61 0 (record (months_left 0 i v k) { takes_month = to 28 (324 + i); scrap = 0; days = l }) last)
  counts_months i w l v k last is few here less total small =
      let ls : List ℕ = take i (lengths k.february) in
      let long : length ls ≡ i = length-take-le i (lengths k.february) (omega (arith, few)) in
      let at_end : Work = record (months_left 0 i v k) { takes_month = to 28 (324 + i); scrap = 0 } in
      let word : get_or (cells at_end) (324 + i) 0 ≡ l = length_at at_end i ∙ here in
      Path-counted
      (followed (obeys 40 0 (S 295 (131072 - suc i) ∷ A 299 ((131072 - length ls) % 131072) ∷ T 306
      ∷ A 313 (to 28 (324 + 0)) ∷ T 51 ∷ []) refl (omega (arith, is, few, long)))
      (followed (months ls k 0 i w v last (have_part 0 i (lengths k.february)) (omega (arith, long)) few total small)
      (obeys 57 0 (A 51 (to 28 (324 + i)) ∷ T 59 ∷ A_by (324 + i) l ∷ T 307 ∷ []) refl
      (omega (arith, word, few, less))))) (omega (arith, long))

  -- sevens are taken away
  sevens : (q r : ℕ) (k : Work) (last : Option ℕ) → r < 7 → 7 * q + r < 65536
      → Path (frame z) (2 + 2 * q) (at m 62 (7 * q + r) k last) [] (at m 64 (131072 - (7 - r)) k last)
  sevens zero r k last few small =
      obeys 62 (7 * 0 + r) (S 321 (131072 - (7 - r)) ∷ E_stays 62 ∷ []) refl (omega (arith, few))
  sevens (suc q) r k last few small =
      Path-counted
      (followed (obeys 62 (7 * suc q + r) (S 321 (7 * q + r) ∷ E_jumps 62 ∷ []) refl (omega (arith, few, small)))
      (sevens q r k last few (omega (arith, small)))) (omega arith)

  pub takes_sevens : (k : Work) (w : ℕ) (last : Option ℕ) → w < 65536
      → Path (frame z) (5 + 2 * (w / 7)) (at m 61 0 (record k { weekday = w }) last) []
      (at m 66 0 (record k { weekday = w % 7 }) last)
  takes_sevens k w last small =
      let is : 7 * (w / 7) + w % 7 ≡ w = omega arith in
      Path-counted
      (followed (obeys 61 0 (A 296 (7 * (w / 7) + w % 7) ∷ []) refl (omega (arith, small)))
      (followed (sevens (w / 7) (w % 7) (record k { weekday = w }) last (omega arith) (omega (arith, small)))
      (obeys 64 (131072 - (7 - w % 7)) (A 321 (w % 7) ∷ T 296 ∷ []) refl (omega arith)))) (omega arith)
