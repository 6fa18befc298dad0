-- The reading of a number in `examples/calendar.tape`.
use Rattle.ed_programs.proofs.Kit.{are_digits-digits, digits, digits_law, sym, Size, I, L1F, LD, value_after, followed}
use Rattle.ed_programs.proofs.Kit.{[], arith, length, List, nat_lt, Option, refl, true, ℕ, ◌*◌, ◌++◌, ◌+◌, ◌<◌, ◌∷◌}
use Rattle.ed_programs.proofs.Kit.{◌≡◌, ◌≤◌, and_parts, ltb-true, Moment, on, Path, own, to, Path-counted}
use Rattle.ed_sources.proofs.Decimals.{are_digits}
use Rattle.ed_programs.proofs.CalendarCells.{at, frame, IsAround, Work}
use Rattle.ed_programs.proofs.Orders.{A, A_low, E_by, E_jumps, E_stays, L, S, T, U, obeys}

-- what is read only grows
value_grows : (v : ℕ) (ds : List ℕ) → v ≤ value_after v ds
value_grows v [] = omega arith
value_grows v (d ∷ ds) = let rest = value_grows (10 * v + d) ds in omega (arith, rest)

module _ (z : Size) (m : Moment) (o : IsAround m.words) where
  -- with these rows on the tape
  abbrev reading : List ℕ → ℕ → ℕ → Work → Option ℕ → Moment
  reading tape i v k last = at (record m { tape = tape }) i v k last

  -- all figures that are left, and the F that ends them; with them the number is n
  figures : (ds rest : List ℕ) (k : Work) (v n : ℕ) (last : Option ℕ) → are_digits ds ≡ true → value_after v ds ≡ n
      → n < 10000
      → Path (frame z) (13 * length ds + 5) (reading (ds ++ 17 ∷ rest) 277 0 (record k { number = v }) last) []
      (reading rest 291 0 (record k { number = n; row = 17; scrap = 7 }) last)
  figures [] rest k v n last are is small =
      let path : Path (frame z) 5 (reading (17 ∷ rest) 277 0 (record k { number = v }) last) []
      (reading rest 291 0 (record k { number = v; row = 17; scrap = 7 }) last) =
      on (I 277 (own 302) 17 refl refl refl)
      (obeys 278 0 (A 302 17 ∷ S 303 7 ∷ E_jumps 290 ∷ T 300 ∷ []) refl (omega arith)) in
      rw (sym is) path
  figures (d ∷ ds) rest k v n last are is small =
      let parts = and_parts (nat_lt d 10) (are_digits ds) are in
      let grows = value_grows (10 * v + d) ds in
      let few = ltb-true d 10 parts.0 in
      Path-counted
      (on (I 277 (own 302) d refl refl refl)
      (followed (obeys 278 0 (A 302 d ∷ S 303 (131062 + d) ∷ E_stays 290 ∷ T 300 ∷ A 297 v ∷ L LD (2 * v) ∷ U 300
      ∷ L L1F (8 * v) ∷ A 300 (10 * v) ∷ A 302 (10 * v + d) ∷ T 297 ∷ E_jumps 277 ∷ []) refl (omega arith))
      (figures ds rest (record k { row = d; scrap = 2 * v }) (10 * v + d) n last parts.1 is small))) (omega arith)

  -- called from cell i
  pub Path-reads : (i n : ℕ) (rest : List ℕ) (k : Work) (last : Option ℕ) → i < 140 → n < 10000
      → Path (frame z) (13 * length (digits n) + 9) (reading (digits n ++ 17 ∷ rest) 274 (to 28 i) k last) []
      (reading rest (i + 2) 0 (record k { number = n; row = 17; scrap = 7; read_link = to 3 (i + 2) }) last)
  Path-reads i n rest k last low small =
      let at3 = o.at3 in
      let is = (digits_law n (omega arith)).value_is in
      Path-counted
      (followed (obeys 274 (to 28 i) (A_low 3 (to 3 (i + 2)) ∷ T 291 ∷ T 297 ∷ []) refl (omega arith))
      (followed
      (figures (digits n) rest (record k { read_link = to 3 (i + 2) }) 0 n last (are_digits-digits n (omega arith)) is
      small)
      (obeys 291 0 (E_by (i + 2) ∷ []) refl (omega arith))))
      (omega arith)
