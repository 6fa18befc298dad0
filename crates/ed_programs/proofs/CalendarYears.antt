-- The count of the years in `examples/calendar.tape`: the weekday of 1 January, and whether it is a leap year.
use Rattle.ed_programs.proofs.Kit.{◌∷◌, Size, followed, [], arith, Bool, false, if◌then◌else◌, inl, inr, Option, refl}
use Rattle.ed_programs.proofs.Kit.{suc, true, zero, ℕ, ◌%◌, ◌*◌, ◌+◌, ◌-◌, ◌/◌, ◌<◌, ◌==◌, ◌≡◌, ◌≤◌, cases_lt}
use Rattle.ed_programs.proofs.Kit.{nat_tests, Moment, Path, stay, Path-counted}
use Rattle.ed_programs.proofs.CalendarCells.{at, frame, Work}
use Rattle.ed_programs.proofs.Orders.{A, E_jumps, E_stays, G_jumps, G_stays, S, T, obeys}

-- n years after 1901: the years to the next leap year, below 0, and the weekday before sevens are taken away
abbrev pub leap_word : ℕ → ℕ
leap_word n = (131069 + n % 4) % 131072

abbrev pub weekday_word : ℕ → ℕ
weekday_word n = 2 + n + n / 4

abbrev pub after_years : ℕ → ℕ → Work → Work
after_years n x k = record k { from = 1901 + n; leap = leap_word n; weekday = weekday_word n; scrap = x }

module _ (z : Size) (m : Moment) (k : Work) (last : Option ℕ) (few : k.year < 2200) where
  -- n years after 1901, before February is made longer
  abbrev reached : ℕ → ℕ → Work
  reached n x = after_years n x (record k { february = 28 })

  -- n years after 1901
  years : (n s : ℕ) → 1901 + n ≤ k.year
      → (x : ℕ) × Path (frame z) (18 * n + 6 * (n / 4)) (at m 8 0 (reached 0 s) last) [] (at m 8 0 (reached n x) last)
  years zero s before = (s, stay)
  years (suc n) s before =
      let rest = years n s (omega arith) in
      let gap : ℕ = 131072 - (k.year - (1901 + n)) in
      elim (cases_lt (n % 4) 3) [
        | inl l ↦ (
          leap_word n,
          Path-counted (followed rest.1 (obeys 8 0 (T 300 ∷ A 304 (1901 + n) ∷ S 294 gap ∷ E_stays 32 ∷ T 300
              ∷ A 296 (weekday_word n) ∷ A 299 (weekday_word (suc n)) ∷ T 296 ∷ A 305 (leap_word n) ∷ G_jumps 24
              ∷ T 300 ∷ A 305 (leap_word n) ∷ A 299 (leap_word (suc n)) ∷ T 305 ∷ A 304 (1901 + n)
              ∷ A 299 (1901 + suc n) ∷ T 304 ∷ E_jumps 8 ∷ []) refl (omega arith))) (omega arith),
        )
        | inr g ↦ (
          0,
          Path-counted (followed rest.1 (obeys 8 0 (T 300 ∷ A 304 (1901 + n) ∷ S 294 gap ∷ E_stays 32 ∷ T 300
              ∷ A 296 (weekday_word n) ∷ A 299 (weekday_word n + 1) ∷ T 296 ∷ A 305 (leap_word n) ∷ G_stays 24
              ∷ T 300 ∷ A 296 (weekday_word n + 1) ∷ A 299 (weekday_word (suc n)) ∷ T 296 ∷ S 312 131068 ∷ T 305
              ∷ T 300 ∷ A 305 131068 ∷ A 299 (leap_word (suc n)) ∷ T 305 ∷ A 304 (1901 + n)
              ∷ A 299 (1901 + suc n) ∷ T 304 ∷ E_jumps 8 ∷ []) refl (omega arith))) (omega arith),
        )
      ]

  -- up to the months: whether it is a leap year is b, and then February is a day longer
  pub counts_years : (n s : ℕ) (b : Bool) → (n % 4 == 3) ≡ b → 1901 + n ≡ k.year
      → (x : ℕ) × Path (frame z) (18 * n + 6 * (n / 4) + (if b then 4 else 0) + 8) (at m 8 0 (reached 0 s) last) []
      (at m 40 0 (record (after_years n x k) { february = if b then 29 else 28 }) last)
  counts_years n s true third is =
      let before = years n s (omega arith) in
      let rest : n % 4 ≡ 3 = grind (arith, nat_tests) in (
        0,
        Path-counted (followed before.1 (obeys 8 0 (T 300 ∷ A 304 (1901 + n) ∷ S 294 0 ∷ E_jumps 32 ∷ T 300
            ∷ A 305 (leap_word n) ∷ G_stays 39 ∷ T 300 ∷ A 325 28 ∷ A 299 29 ∷ T 325 ∷ T 300 ∷ []) refl
            (omega arith))) (omega arith),
      )
  counts_years n s false third is =
      let before = years n s (omega arith) in
      let rest : n % 4 < 3 = grind (arith, nat_tests) in (
        leap_word n,
        Path-counted (followed before.1 (obeys 8 0 (T 300 ∷ A 304 (1901 + n) ∷ S 294 0 ∷ E_jumps 32 ∷ T 300
            ∷ A 305 (leap_word n) ∷ G_jumps 39 ∷ T 300 ∷ []) refl (omega arith))) (omega arith),
      )
