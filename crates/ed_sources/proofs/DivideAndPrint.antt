-- The source that divides a number and prints the quotient and the remainder, from its entry to its stop.
use Rattle.ed_sources.proofs.Kit.{mod-lt, Size, nat_tests, IsDivisible, parameter_store, length-replicate}
use Rattle.ed_sources.proofs.Kit.{locations_least, [], arith, Bool, false, lit<, lit≤, refl, subst, ℕ, ◌%◌, ◌*◌, ◌++◌}
use Rattle.ed_sources.proofs.Kit.{◌+◌, ◌/◌, ◌<◌, ◌∙◌, ◌∷◌, ◌≡◌, ◌≤◌, short_at, State, newline, print, with_h, digits}
use Rattle.ed_sources.proofs.Kit.{print_orders, divide, IsDivision, with_hnm, divide_orders, dividend, entry_state}
use Rattle.ed_sources.proofs.Kit.{StopsAt-behind, StopsAt, List, Line, rules}
use Rattle.std.proofs.Math.Nat.{div-lt_iff_lt-mul}
use Rattle.ed_sources.proofs.Along.{IsAt, IsBefore-placed, IsAt-entered, HasRoutine-placed, IsAt-passed, HasCall}
use Rattle.ed_sources.proofs.Along.{Passes-print, StopsAt-placed}
use Rattle.ed_sources.proofs.AtEntry.{word_at}
use Rattle.ed_sources.proofs.CalledMaths.{Divides, Divides-called}
use Rattle.ed_sources.proofs.CalledRoutines.{Passes, newline_passes}
use Rattle.ed_sources.proofs.SaidMaths.{divide_lines}

-- the quotient and the remainder of a division in range are below 65536
pub quotient_low : (n by : ℕ) → 1 ≤ by → n < 65536 * by → n / by < 65536
quotient_low n by positive less = let some : 0 < by = omega arith in (div-lt_iff_lt-mul some).1 less

pub remainder_low : (n by : ℕ) → 1 ≤ by → by ≤ 32767 → n % by < 65536
remainder_low n by positive fits = let some : 0 < by = omega arith in let low = mod-lt n some in omega arith

-- a quotient and a remainder are printed, and the machine stops
abbrev pub Ends : State → ℕ → ℕ → Type 0
Ends s q r =
    StopsAt (2 + divide_orders q + (2 + print_orders q + (7 + (2 + print_orders r)))) s
    (11 ∷ digits q ++ 18 ∷ 24 ∷ 11 ∷ digits r) 64

module _ (z : Size) (high low by : ℕ) (positive : 1 ≤ by) (fits : by ≤ 32767) (less : high < by)
    (small : low < 65536) where
  abbrev lines : List Line
  lines = divide_lines high low by

  abbrev s : State
  s = entry_state z lines

  -- the number that is divided, its quotient and its remainder
  abbrev n : ℕ
  n = 65536 * high + low

  -- ---- `divide`

  at : IsAt z lines s 65 68 56
  at = IsAt-entered refl refl

  divide_call : HasCall lines divide 68 (with_hnm 65 66 67) 65 68 56
  unfolding parameter_store
  divide_call = search rules

  -- its three words, which the entry state has
  at_high : short_at s.store 65 ≡ high
  at_high = word_at z lines refl 65 (lit≤ tt) (lit< tt)

  at_low : short_at s.store 66 ≡ low
  at_low = word_at z lines refl 66 (lit≤ tt) (lit< tt)

  at_by : short_at s.store 67 ≡ by
  at_by = word_at z lines refl 67 (lit≤ tt) (lit< tt)

  is_division : IsDivision 68 65 66 67 s
  is_division = grind (arith, nat_tests, locations_least, at_by, at_high, at_low)

  division : Divides s 56 65 109 65 66 67
  division =
      Divides-called (IsBefore-placed at divide_call) (length-replicate {A = Bool} 512 false) refl
      (HasRoutine-placed at divide_call) is_division
      (lit≤ tt, lit≤ tt) (lit< tt) (lit< tt)

  abbrev takes : Passes (2 + divide_orders (dividend 65 66 s / short_at s.store 67)) s [] 56 65 109
  takes = division.passes

  number : dividend 65 66 s ≡ n
  number = λ i. 65536 * at_high i + at_low i

  count : dividend 65 66 s / short_at s.store 67 ≡ n / by
  count = λ i. number i / at_by i

  -- ---- `print`, of the quotient

  at_print : IsAt z lines takes.last 65 109 58
  at_print = IsAt-passed at takes (lit≤ tt) (lit≤ tt)

  print_call : HasCall lines print 110 (with_h 66) 65 109 58
  unfolding parameter_store
  print_call = search rules

  printed : Passes (2 + print_orders (n / by)) takes.last (11 ∷ digits (n / by)) 58 110 161
  printed =
      Passes-print at_print 66 print_call (lit< tt) (division.quotient ∙ count)
      (quotient_low n by positive (omega arith))

  -- ---- `newline`

  at_newline : IsAt z lines printed.last 65 161 60
  at_newline = IsAt-passed at_print printed (lit≤ tt) (lit≤ tt)

  newline_call : HasCall lines newline 162 [] 65 161 60
  unfolding parameter_store
  newline_call = search rules

  feeds : Passes 7 printed.last (18 ∷ 24 ∷ []) 60 162 169
  feeds = newline_passes (IsBefore-placed at_newline newline_call) (HasRoutine-placed at_newline newline_call)

  -- ---- `print`, of the remainder

  at_last : IsAt z lines feeds.last 65 169 62
  at_last = IsAt-passed at_newline feeds (lit≤ tt) (lit≤ tt)

  last_call : HasCall lines print 170 (with_h 65) 65 169 62
  unfolding parameter_store
  last_call = search rules

  still : short_at feeds.last.store 65 ≡ n % by
  still = search (rules, feeds, printed, division, number, at_by)

  prints_last : StopsAt (2 + print_orders (n % by)) feeds.last (11 ∷ digits (n % by)) 64
  prints_last =
      StopsAt-placed at_last last_call
      (Passes-print at_last 65 last_call (lit< tt) still (remainder_low n by positive fits)) refl

  pub divide_ends : Ends s (n / by) (n % by)
  divide_ends =
      StopsAt-behind (rw count at takes.leads)
      (StopsAt-behind printed.leads (StopsAt-behind feeds.leads prints_last))

-- the same for `call divide N D`
pub call_ends : (z : Size) (n by : ℕ) → IsDivisible n by
    → Ends (entry_state z (divide_lines (n / 65536) (n % 65536) by)) (n / by) (n % by)
call_ends z n by made =
    let whole : 65536 * (n / 65536) + n % 65536 ≡ n = omega arith in
    let less = made.less in
    subst (λ x. Ends (entry_state z (divide_lines (n / 65536) (n % 65536) by)) (x / by) (x % by)) whole
    (divide_ends z (n / 65536) (n % 65536) by made.positive made.divisor (omega arith) (omega arith))
