-- The routines of the library as lines of a journey.
use Rattle.ed_routines.proofs.Kit.{A_F, E_F, S_F, all_words, Frame, Moment, short, state, Jumps, Reads, any, own}
use Rattle.ed_routines.proofs.Kit.{begun, flag_of, spared, [], arith, get_or, inl, inr, List, refl, rules, Some, subst}
use Rattle.ed_routines.proofs.Kit.{ℕ, ◌%◌, ◌*◌, ◌+◌, ◌-◌, ◌/◌, ◌<◌, ◌^◌, ◌∷◌, ◌≡◌, ◌≤◌, ◌⊎◌, locations, State, newline}
use Rattle.ed_routines.proofs.Kit.{print, with_h, digits, print_orders, IsLoadedAt, IsOutside}
use Rattle.ed_routines.proofs.Called.{IsCalled, IsWithin, IsCalled-loaded as routine_called}
use Rattle.ed_routines.proofs.Journeys.{HasRoutine, IsIn, Journey, Returns, all_long, after_call, called}
use Rattle.ed_routines.proofs.Journeys.{Journey-called}
use Rattle.ed_routines.proofs.Print.{before_tens, cells as print_cells}
use Rattle.ed_machine.proofs.Kit.Newline as newline_piece
use Rattle.ed_routines.proofs.NewLine as new_line
use Rattle.ed_routines.proofs.PrintCall as print_call

-- the caller, as a routine computes it
abbrev pub reckoned : ℕ → ℕ
reckoned m = (short (A_F + 2 * m) / 2 ^ 54 - A_F) / 2

module _ {n h : ℕ} {f : Frame n h} {r : Moment} (o : IsIn f r) where
  -- ---- `newline`

  abbrev pub newline_left : ℕ → ℕ → List ℕ
  newline_left w i = newline_piece.cells w (E_F + 2 * (reckoned (f.base + i) + 2))

  pub newline_returns : {w : ℕ} (i done : ℕ) → IsLoadedAt newline [] w (state f (called o i w) done)
      → Returns newline w (state f (called o i w) done) 5 (18 ∷ 24 ∷ []) (newline_left w i) (Some 24)
  newline_returns {w} i done there =
      let s : State = state f (called o i w) done in
      let within : IsWithin 7 w 0 (locations f.size) s = record {
        under = there.fits;
        near = let under = there.fits in omega arith;
        back = there.call.room;
        fits = omega arith;
      } in
      record {
        leads = new_line.leads_to (all_long o) there within;
        long = new_line.all_last (all_long o) there within;
        keeps = λ q other.
            (new_line.keeps (all_long o) there within (new_line.last (all_long o) there within) refl).words q other;
      }

  pub newline_line : {w : ℕ} (i : ℕ) (has : HasRoutine f r.words newline w []) → i + 3 ≤ n → r.acc ≡ 0
      → Reads {f = f} {r = r} i 28 (own i)
      → Jumps {f = f} {r = record r { acc = short (A_F + 2 * (f.base + i)); counter = f.base + (i + 1) }}
      (i + 1) 27 (any w has.reached)
      → Journey f 7 r (18 ∷ 24 ∷ []) (after_call o w i (newline_left w i) (Some 24))
  newline_line {w} i has room clear first second =
      Journey-called o i (newline_left w i) (Some 24) has (newline_returns i) room clear first second

  -- ---- `print`, with the number in the cell j

  abbrev pub print_left : ℕ → ℕ → ℕ → ℕ → List ℕ
  print_left w i j x = print_cells w (f.base + j) (record {
    at11 = S_F + 2 * (w + 47);
    at38 = E_F + 2 * (reckoned (f.base + i) + 2);
    at47 = x % 10;
    at48 = flag_of (begun (before_tens x) (x / 10 % 10));
    at49 = 4096 * (x % 10);
    at50 = spared (before_tens x) (x / 10 % 10);
  })

  abbrev pub number_at : ℕ → ℕ
  number_at j = get_or (all_words f r) (f.base + j) 0

  pub print_returns : {w : ℕ} (i j done : ℕ) → j < n → number_at j < 65536
      → ((w + 51 ≤ f.base) ⊎ (f.base + n ≤ w))
      → IsLoadedAt print (with_h (f.base + j)) w (state f (called o i w) done)
      → Returns print w (state f (called o i w) done) (print_orders (number_at j)) (11 ∷ digits (number_at j))
      (print_left w i j (number_at j)) (Some (number_at j % 10))
  print_returns {w} i j done inside small apart there =
      let s : State = state f (called o i w) done in
      let out : IsOutside print w (f.base + j) s = record {
        below = let u = f.under in let v = f.fits in omega arith;
        beside = side apart;
      } in
      let call : IsCalled print (with_h (f.base + j)) w (f.base + j) (locations f.size) s
      = routine_called (all_long o) there out in
      record {
        leads = print_call.leads_to call small;
        long = print_call.all_last call small;
        keeps = λ q other. (print_call.keeps call small (print_call.last call small) refl).words q other;
      }
    where
      side : ((w + 51 ≤ f.base) ⊎ (f.base + n ≤ w)) → (f.base + j < w) ⊎ (w + 51 ≤ f.base + j)
      side (inl b) = inr (omega arith)
      side (inr b) = inl (omega arith)

  -- the same, by the number in that cell
  pub print_goes : {w v : ℕ} (i j : ℕ) → number_at j ≡ v → j < n → v < 65536
      → ((w + 51 ≤ f.base) ⊎ (f.base + n ≤ w))
      → (done : ℕ) → IsLoadedAt print (with_h (f.base + j)) w (state f (called o i w) done)
      → Returns print w (state f (called o i w) done) (print_orders v) (11 ∷ digits v) (print_left w i j v)
      (Some (v % 10))
  print_goes {w} {v} i j number inside small apart done there =
      let low : number_at j < 65536 = rw number small in
      subst (λ x. Returns print w (state f (called o i w) done) (print_orders x) (11 ∷ digits x)
      (print_left w i j x)
      (Some (x % 10)))
      number (print_returns i j done inside low apart there)

  pub print_line : {w v : ℕ} (i j : ℕ) (has : HasRoutine f r.words print w (with_h (f.base + j))) → number_at j ≡ v
      → j < n → v < 65536 → i + 3 ≤ n → r.acc ≡ 0
      → Reads {f = f} {r = r} i 28 (own i)
      → Jumps {f = f} {r = record r { acc = short (A_F + 2 * (f.base + i)); counter = f.base + (i + 1) }}
      (i + 1) 27 (any w has.reached)
      → Journey f (2 + print_orders v) r (11 ∷ digits v) (after_call o w i (print_left w i j v) (Some (v % 10)))
  print_line {w} {v} i j has number inside small room clear first second = search (rules, Journey-called, print_goes)
