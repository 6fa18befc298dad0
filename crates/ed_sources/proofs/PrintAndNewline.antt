-- The sources that print a number and a new line, from their entries to their stops.
use Rattle.ed_sources.proofs.Kit.{Size, parameter_store, [], lit<, lit≤, refl, ℕ, ◌+◌, ◌<◌, ◌∷◌, newline, print}
use Rattle.ed_sources.proofs.Kit.{with_h, digits, print_orders, entry_state, StopsAt, rules}
use Rattle.ed_sources.proofs.Along.{IsAt, IsBefore-placed, IsAt-entered, HasRoutine-placed, HasCall, StopsAt-placed}
use Rattle.ed_sources.proofs.Along.{Passes-print}
use Rattle.ed_sources.proofs.AtEntry.{word_at}
use Rattle.ed_sources.proofs.CalledRoutines.{newline_passes}
use Rattle.ed_sources.proofs.Said.{newline_lines, print_lines}

-- ---- `call print N`

module _ (z : Size) (n : ℕ) (small : n < 65536) where
  at : IsAt z (print_lines n) (entry_state z (print_lines n)) 59 60 56
  at = IsAt-entered refl refl

  its_call : HasCall (print_lines n) print 60 (with_h 59) 59 60 56
  unfolding parameter_store
  its_call = search rules

  pub print_ends : StopsAt (2 + print_orders n) (entry_state z (print_lines n)) (11 ∷ digits n) 58
  print_ends =
      let number = word_at z (print_lines n) refl 59 (lit≤ tt) (lit< tt) in
      StopsAt-placed at its_call (Passes-print at 59 its_call (lit< tt) number small) refl

-- ---- `call newline`

module _ (z : Size) where
  at_newline : IsAt z newline_lines (entry_state z newline_lines) 59 60 56
  at_newline = IsAt-entered refl refl

  newline_call : HasCall newline_lines newline 60 [] 59 60 56
  unfolding parameter_store
  newline_call = search rules

  pub newline_ends : StopsAt 7 (entry_state z newline_lines) (18 ∷ 24 ∷ []) 58
  newline_ends =
      StopsAt-placed at_newline newline_call
      (newline_passes (IsBefore-placed at_newline newline_call) (HasRoutine-placed at_newline newline_call)) refl
