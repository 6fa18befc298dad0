-- The printing of signs in `examples/calendar.tape`.
use Rattle.ed_programs.proofs.Kit.{Size, followed, [], arith, get_or, length, List, lit<, map, Option, refl, Some, suc}
use Rattle.ed_programs.proofs.Kit.{ℕ, ◌*◌, ◌+◌, ◌-◌, ◌<◌, ◌∙◌, ◌∷◌, ◌≡◌, ◌≤◌, Moment, Path, to, Path-counted}
use Rattle.ed_programs.proofs.CalendarCells.{at, cells, frame, latest, sign_at, signs, Have, IsAround, Work}
use Rattle.ed_programs.proofs.Orders.{A, A_low, E_by, G_jumps, G_stays, O_by, S, T, U, obeys}

-- codes in words
abbrev pub in_words : List ℕ → List ℕ
in_words cs = map (λ c. 4096 * c) cs

module _ (z : Size) (m : Moment) (o : IsAround m.words) where
  -- the next sign is j, and e is the one past the last
  abbrev pub from_to : ℕ → ℕ → Work → Work
  from_to j e k = record k { sign = to 9 (156 + j); end = to 9 (156 + e) }

  -- all that are left, and the return to cell i
  all_signs : (i c : ℕ) (cs : List ℕ) (k : Work) (j e v : ℕ) (last : Option ℕ) → i < 150
      → Have (signs k.one k.two k.three) j (in_words (c ∷ cs)) → j + suc (length cs) ≡ e → e ≤ 75 → v < 131072
      → Path (frame z) (9 + 7 * length cs) (at m 146 v (from_to j e (record k { sign_link = to 3 i })) last) (c ∷ cs)
      (at m i 0 (record (from_to e e k) { scrap = 0; sign_link = to 3 i }) (latest last (c ∷ cs)))
  all_signs i c [] k j e v last low here ends few small =
      let at2 = o.at2 in
      let next : e ≡ suc j = omega (arith, ends) in
      let k0 : Work = from_to j (suc j) (record k { scrap = v; sign_link = to 3 i }) in
      let word : get_or (cells k0) (156 + j) 0 ≡ 4096 * c = sign_at k0 j (omega arith) ∙ here.0 in
      rw next (obeys 146 v (T 300 ∷ O_by (156 + j) c ∷ A 147 (to 9 (156 + j)) ∷ A_low 2 (to 9 (156 + suc j)) ∷ U 147
      ∷ S 319 0 ∷ G_stays 146 ∷ T 300 ∷ E_by i ∷ []) refl (omega (arith, word)))
  all_signs i c (d ∷ ds) k j e v last low here ends few small =
      let at2 = o.at2 in
      let u : ℕ = 131072 - 2 * suc (length ds) in
      let k0 : Work = from_to j e (record k { scrap = v; sign_link = to 3 i }) in
      let word : get_or (cells k0) (156 + j) 0 ≡ 4096 * c = sign_at k0 j (omega arith) ∙ here.0 in
      Path-counted
      (followed (obeys 146 v (T 300 ∷ O_by (156 + j) c ∷ A 147 (to 9 (156 + j)) ∷ A_low 2 (to 9 (156 + suc j)) ∷ U 147
      ∷ S 319 u ∷ G_jumps 146 ∷ []) refl (omega (arith, word, ends, few)))
      (all_signs i d ds (record k { scrap = v }) (suc j) e u (Some c) low here.1 (omega (arith, ends)) few
      (omega arith))) (omega arith)

  -- called from cell i
  pub prints_signs : (i c : ℕ) (cs : List ℕ) (k : Work) (j e : ℕ) (last : Option ℕ) → i < 140
      → Have (signs k.one k.two k.three) j (in_words (c ∷ cs)) → j + suc (length cs) ≡ e → e ≤ 75
      → Path (frame z) (11 + 7 * length cs) (at m 144 (to 28 i) (from_to j e k) last) (c ∷ cs)
      (at m (i + 2) 0 (record (from_to e e k) { scrap = 0; sign_link = to 3 (i + 2) }) (latest last (c ∷ cs)))
  prints_signs i c cs k j e last low here ends few =
      let at3 = o.at3 in
      Path-counted
      (followed (obeys 144 (to 28 i) (A_low 3 (to 3 (i + 2)) ∷ T 154 ∷ []) refl (omega arith))
      (all_signs (i + 2) c cs k j e 0 last (omega (arith, low)) here ends few (lit< tt))) (omega arith)
