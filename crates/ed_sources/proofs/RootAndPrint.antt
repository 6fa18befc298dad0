-- The source that takes a square root and prints it, from its entry to its stop.
use Rattle.ed_sources.proofs.Kit.{Size, parameter_store, [], arith, inl, lit<, lit≤, refl, ℕ, ◌+◌}
use Rattle.ed_sources.proofs.Kit.{◌<◌, ◌∷◌, ◌≡◌, short_at, State, print, with_h, digits, print_orders, root, root_of}
use Rattle.ed_sources.proofs.Kit.{with_hn, root_is, root_orders, entry_state, StopsAt-behind, StopsAt, rules}
use Rattle.ed_maths.proofs.RootCall.{IsRoot-few}
use Rattle.ed_sources.proofs.Along.{IsAt, IsBefore-placed, IsAt-entered, HasRoutine-placed, IsAt-passed, word_there}
use Rattle.ed_sources.proofs.Along.{HasCall, IsOutside-below, StopsAt-placed, Passes-print}
use Rattle.ed_sources.proofs.CalledMaths.{TakesRoot, takes_root}
use Rattle.ed_sources.proofs.CalledRoutines.{Passes}
use Rattle.ed_sources.proofs.SaidMaths.{root_lines}

pub root_small : (n : ℕ) → n < 65536 → root_of n < 65536
root_small n small = let low = IsRoot-few n (root_of n) (root_is n) small in omega arith

module _ (z : Size) (n : ℕ) (small : n < 65536) where
  abbrev s : State
  s = entry_state z (root_lines n)

  abbrev r : ℕ
  r = root_of n

  -- ---- `root`

  at : IsAt z (root_lines n) s 62 64 56
  at = IsAt-entered refl refl

  its_call : HasCall (root_lines n) root 64 (with_hn 61 62) 62 64 56
  unfolding parameter_store
  its_call = search rules

  number : short_at s.store 61 ≡ n
  number = word_there at 61 n (inl (lit< tt)) (lit≤ tt) (lit< tt) refl

  taken : TakesRoot s 56 87 62 r
  taken =
      takes_root (IsBefore-placed at its_call) {source = 61} {target = 62} (HasRoutine-placed at its_call)
      (IsOutside-below at its_call (lit< tt))
      (IsOutside-below at its_call (lit< tt)) (λ e. omega (arith, e)) (rw number small) (rw number (root_is n))
      (lit< tt)

  abbrev takes : Passes (2 + root_orders r) s [] 56 62 87
  takes = taken.passes

  -- ---- `print`

  at_print : IsAt z (root_lines n) takes.last 62 87 58
  at_print = IsAt-passed at takes (lit≤ tt) (lit≤ tt)

  print_call : HasCall (root_lines n) print 88 (with_h 62) 62 87 58
  unfolding parameter_store
  print_call = search rules

  pub root_ends : StopsAt (2 + root_orders r + (2 + print_orders r)) s (11 ∷ digits r) 60
  root_ends =
      StopsAt-behind takes.leads
      (StopsAt-placed at_print print_call
      (Passes-print at_print 62 print_call (lit< tt) taken.root_is (root_small n small)) refl)
