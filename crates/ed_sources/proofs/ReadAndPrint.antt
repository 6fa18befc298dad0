-- The source that reads a number and prints it, from its entry to its stop.
use Rattle.ed_sources.proofs.Kit.{Size, and_parts, parameter_store, append-nil, [], ap}
use Rattle.ed_sources.proofs.Kit.{length, List, lit<, lit≤, nat_lt, refl, subst, true, ℕ, ◌*◌, ◌++◌, ◌+◌, ◌<◌}
use Rattle.ed_sources.proofs.Kit.{◌∙◌, ◌∷◌, ◌≡◌, short_at, State, print, read, with_h, after_digits, digit_rows}
use Rattle.ed_sources.proofs.Kit.{digits, print_orders, entry_state, StopsAt-behind, StopsAt, rules}
use Rattle.ed_sources.proofs.Along.{IsAt, IsBefore-placed, IsAt-entered, HasRoutine-placed, IsAt-passed, HasCall}
use Rattle.ed_sources.proofs.Along.{IsOutside-below, StopsAt-placed, Passes-print}
use Rattle.ed_sources.proofs.CalledRoutines.{Passes, ReadsNumber, ReadsNumber-called}
use Rattle.ed_sources.proofs.Decimals.{are_digits-digits, are_digits}
use Rattle.ed_sources.proofs.Said.{read_lines}

-- the digit rows of a tape are the digits that it begins with, and then its other rows are left
pub rows_are : (ds rest : List ℕ) → are_digits ds ≡ true → digit_rows (ds ++ 17 ∷ rest) ≡ ds
rows_are [] rest h = refl
rows_are (d ∷ ds) rest h =
    let p = and_parts (nat_lt d 10) (are_digits ds) h in rw p.0 (ap (λ (x : List ℕ). d ∷ x) (rows_are ds rest p.1))

pub rest_is : (ds rest : List ℕ) → are_digits ds ≡ true → after_digits (ds ++ 17 ∷ rest) ≡ 17 ∷ rest
rest_is [] rest h = refl
rest_is (d ∷ ds) rest h = let p = and_parts (nat_lt d 10) (are_digits ds) h in rw p.0 (rest_is ds rest p.1)

module _ (z : Size) (n : ℕ) (small : n < 65536) where
  abbrev s : State
  s = entry_state z (read_lines n)

  -- ---- `read`

  at : IsAt z (read_lines n) s 61 62 56
  at = IsAt-entered refl refl

  read_call : HasCall (read_lines n) read 62 (with_h 61) 61 62 56
  unfolding parameter_store
  read_call = search rules

  tape_is : s.tape ≡ digits n ++ 17 ∷ []
  tape_is = append-nil (digits n ++ 17 ∷ [])

  rows : digit_rows s.tape ≡ digits n
  rows = ap digit_rows tape_is ∙ rows_are (digits n) [] (are_digits-digits n small)

  taken : ReadsNumber s 56 61 86
  taken =
      ReadsNumber-called (IsBefore-placed at read_call) {h = 61} (HasRoutine-placed at read_call)
      (IsOutside-below at read_call (lit< tt))
      (lit< tt)
      (ap after_digits tape_is ∙ rest_is (digits n) [] (are_digits-digits n small)) (lit< tt)

  abbrev takes : Passes (2 + (11 + 13 * length (digit_rows s.tape))) s [] 56 61 86
  takes = taken.passes

  number : short_at takes.last.store 61 ≡ n
  number = search (rules, taken, rows)

  -- ---- `print`

  at_print : IsAt z (read_lines n) takes.last 61 86 58
  at_print = IsAt-passed at takes (lit≤ tt) (lit≤ tt)

  its_call : HasCall (read_lines n) print 86 (with_h 61) 61 86 58
  unfolding parameter_store
  its_call = search rules

  pub read_ends : StopsAt (2 + (11 + 13 * length (digits n)) + (2 + print_orders n)) s (11 ∷ digits n) 60
  read_ends =
      subst (λ (ds : List ℕ). StopsAt (2 + (11 + 13 * length ds) + (2 + print_orders n)) s (11 ∷ digits n) 60) rows
      (StopsAt-behind takes.leads
      (StopsAt-placed at_print its_call (Passes-print at_print 61 its_call (lit< tt) number small) refl))
