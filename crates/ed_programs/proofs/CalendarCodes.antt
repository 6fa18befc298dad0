-- The codes that the program of `examples/calendar.tape` prints.
use Rattle.std.proofs.Common.{replicate, ℕ, zero, suc, ◌-◌, ◌*◌, ◌/◌, ◌%◌, ◌==◌, nat_lt, if◌then◌else◌, List, [], ◌∷◌}
use Rattle.std.proofs.Common.{Bool, ◌++◌, get_or, map, refl, ◌+◌, ◌≡◌, rules}
use Rattle.std.specs.List.{range_with_len}
use Rattle.ed_programs.specs.Calendar.{month_length, month_names, weekday_count}
use Rattle.ed_codes.specs.Spelling.{row_of}
use Rattle.ed_syntax.specs.Reading.Grammar.{row}

-- the days of a week before the first of the month, as the program counts them
abbrev pub place : ℕ → ℕ → ℕ
place month year = weekday_count month year % 7

-- the letters of a month
abbrev pub name_codes : ℕ → List ℕ
name_codes i = map (λ b. row (row_of b)) (get_or month_names i [])

-- the title up to the year: 15 and 11 are the shifts to letters and to figures, and 20 is a space
abbrev pub title_codes : ℕ → List ℕ
title_codes i =
    15 ∷ 20 ∷ 20 ∷ 20 ∷ 20 ∷ 20 ∷ 20 ∷ (name_codes i ++ 20 ∷ 11 ∷ [])

-- the figures of a year
abbrev pub year_codes : ℕ → List ℕ
year_codes year = year / 1000 ∷ year / 100 % 10 ∷ year / 10 % 10 ∷ year % 10 ∷ []

-- the heads of the columns, between two new lines, 18 and 24
abbrev pub head_codes : List ℕ
head_codes =
    18 ∷ 24 ∷ 15 ∷ 20 ∷ 12 ∷ 7 ∷ 20 ∷ 23 ∷ 9 ∷ 20 ∷ 5 ∷ 7 ∷ 20 ∷ 2 ∷ 3 ∷ 20 ∷ 5 ∷ 21 ∷ 20 ∷ 17 ∷ 4 ∷ 20 ∷ 12 ∷ 28
    ∷ 18 ∷ 24 ∷ 11 ∷ []

-- a day: a space, the tens or a space, and the units
abbrev pub day_codes : ℕ → List ℕ
day_codes day = 20 ∷ (if nat_lt day 10 then 20 else day / 10) ∷ day % 10 ∷ []

-- n days from one on
abbrev pub days_from : ℕ → ℕ → List ℕ
days_from day zero = []
days_from day (suc n) = day ∷ days_from (suc day) n

pub range_is : (day n : ℕ) → range_with_len day n ≡ days_from day n
range_is day zero = refl
range_is day (suc n) = search (rules, range_is (day + 1) n)

-- a new line after the last day of a week
abbrev pub week_end : Bool → List ℕ
week_end last = if last then 18 ∷ 24 ∷ [] else []

-- n days from one on, with the number of days in the first one's week before it
abbrev pub days_codes : ℕ → ℕ → ℕ → List ℕ
days_codes before day zero = []
days_codes before day (suc n) = day_codes day ++ (week_end (before == 6) ++ days_codes (suc before % 7) (suc day) n)

-- all that is printed
abbrev pub calendar_codes : ℕ → ℕ → List ℕ
calendar_codes month year =
    title_codes (month - 1) ++ (year_codes year ++ (head_codes
    ++ (replicate (3 * place month year) 20 ++ days_codes (place month year) 1 (month_length month year))))
