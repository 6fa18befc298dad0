-- What the program of `examples/calendar.tape` counts is the calendar, from 1901 to 2099.
use Rattle.ed_programs.proofs.Kit.{sum, [], arith, Bool, get_or, if◌then◌else◌, refl, rules, suc, zero, ℕ, ◌%◌, ◌*◌}
use Rattle.ed_programs.proofs.Kit.{◌+◌, ◌/◌, ◌==◌, ◌∙◌, ◌∷◌, ◌≡◌, ◌≤◌, nat_tests, days_before, is_leap, month_lengths}
use Rattle.ed_programs.proofs.Kit.{weekday, place, common_steps}
use Rattle.ed_programs.specs.Calendar.{years_length}

-- ---- leap years and their days

-- each fourth year is a leap year, 2000 too
pub leap_is : (n : ℕ) → n ≤ 198 → is_leap (1901 + n) ≡ (n % 4 == 3)
leap_is n few = grind (arith, common_steps)

days_next : (b : Bool) (n : ℕ) → (n % 4 == 3) ≡ b
    → 365 + 365 * n + n / 4 + (if b then 366 else 365) ≡ 365 + 365 * suc n + suc n / 4
days_next b n h = grind (arith, nat_tests)

pub year_length_is : (year : ℕ) → sum (month_lengths year) ≡ (if is_leap year then 366 else 365)
year_length_is year = grind (arith, nat_tests)

-- no month has more than 31 days
pub days_at_most : (leap : Bool) (k : ℕ)
    → get_or (31 ∷ (if leap then 29 else 28) ∷ 31 ∷ 30 ∷ 31 ∷ 30 ∷ 31 ∷ 31 ∷ 30 ∷ 31 ∷ 30 ∷ 31 ∷ []) k 0 ≤ 31
days_at_most leap k = grind arith

next_year : (n : ℕ) → 1900 + suc n ≡ 1901 + n
next_year n = omega arith

-- the days from 1900 on up to the year 1901 + n
pub years_length_is : (n : ℕ) → n ≤ 199 → years_length (suc n) ≡ 365 + 365 * n + n / 4
years_length_is zero few = refl
years_length_is (suc n) few =
    search (rules, next_year, year_length_is, leap_is, days_next, years_length_is n (omega arith))

-- ---- the day of the week

sevens : (n m x : ℕ) → ((365 + 365 * n + n / 4 + m + x) % 7 + 1) % 7 ≡ ((2 + n + n / 4 + m) % 7 + x) % 7
sevens n m x = omega arith

module _ (month year : ℕ) where
  -- a day of the month, counted from the Sunday before the first or on it
  pub weekday_is : (day : ℕ) → 1901 ≤ year → year ≤ 2099
      → (weekday (suc day) month year + 1) % 7 ≡ (place month year + day) % 7
  weekday_is day low high = search (rules, years_length_is, sevens)

  -- those before the first
  pub days_before_is : 1901 ≤ year → year ≤ 2099 → days_before month year ≡ place month year
  days_before_is low high = weekday_is 0 low high ∙ omega arith
