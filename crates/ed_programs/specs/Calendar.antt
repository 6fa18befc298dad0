-- The tape of `examples/calendar.tape` for any month from January 1901 to December 2099, and what it prints.
use Rattle.std.specs.Prelude.{ℕ, zero, suc, ◌+◌, ◌-◌, ◌*◌, ◌/◌, ◌%◌, Bool, not, ◌==◌, ◌&&◌, ◌||◌, if◌then◌else◌}
use Rattle.std.specs.Prelude.{List, [], ◌∷◌, ◌++◌, codes, flat_map, get_or, length, map, nat_lt, replicate, sum, take}
use Rattle.std.specs.List.{range_with_len}
use Rattle.std.specs.Prelude.{Option, Some, None}
use Rattle.std.specs.Fmt.{decimal}
use Rattle.ed_words.specs.Texts.{Text}
use Rattle.ed_routines.specs.Digits.{digits}
use Rattle.ed_sources.specs.CallSources.{filled_text}
use Rattle.ed_programs.specs.declared.calendar.TheConstants.{CALENDAR}
use Rattle.ed_programs.specs.declared.refusal.Refusal.{Refusal}
use Rattle.ed_programs.specs.declared.refusal.Refusal.TheVariants.{Month, Year}

-- the whole tape
abbrev pub calendar_text : ℕ → ℕ → Text
calendar_text month year = filled_text (map (λ piece. piece.now) CALENDAR) (decimal month ∷ decimal year ∷ [])

-- why a month and a year are refused, if they are
abbrev pub calendar_refusal : ℕ → ℕ → Option Refusal
calendar_refusal month year =
    if nat_lt month 1 || nat_lt 12 month then Some Month
    else if nat_lt year 1901 || nat_lt 2099 year then Some Year else None

-- ---- the Gregorian calendar

-- a leap year: 4 divides it, and if 100 does, 400 does too
abbrev pub is_leap : ℕ → Bool
is_leap year = year % 4 == 0 && (not (year % 100 == 0) || year % 400 == 0)

-- the days of each month of a year
abbrev pub month_lengths : ℕ → List ℕ
month_lengths year =
    31 ∷ (if is_leap year then 29 else 28) ∷ 31 ∷ 30 ∷ 31 ∷ 30 ∷ 31 ∷ 31 ∷ 30 ∷ 31 ∷ 30 ∷ 31 ∷ []

-- the days of a month; January is the month 1
abbrev pub month_length : ℕ → ℕ → ℕ
month_length month year = get_or (month_lengths year) (month - 1) 0

-- the days of n years, from 1900 on
abbrev pub years_length : ℕ → ℕ
years_length zero = 0
years_length (suc n) = years_length n + sum (month_lengths (1900 + n))

-- the weekday of a day, from 0 for a Monday to 6 for a Sunday, by the days from 1 January 1900, a Monday, up to that day
abbrev pub weekday : ℕ → ℕ → ℕ → ℕ
weekday day month year = (years_length (year - 1900) + sum (take (month - 1) (month_lengths year)) + (day - 1)) % 7

-- ---- what is printed

-- a new line: carriage return and line feed
abbrev pub new_line : Text
new_line = 13 ∷ 10 ∷ []

-- three letters of each month
abbrev pub month_names : List Text
month_names =
    codes "JAN" ∷ codes "FEB" ∷ codes "MAR" ∷ codes "APR" ∷ codes "MAY" ∷ codes "JUN" ∷ codes "JUL" ∷ codes "AUG"
    ∷ codes "SEP" ∷ codes "OCT" ∷ codes "NOV" ∷ codes "DEC" ∷ []

-- the line of the month and the year
abbrev pub calendar_title : ℕ → ℕ → Text
calendar_title month year =
    codes "      " ++ get_or month_names (month - 1) [] ++ codes " " ++ decimal year ++ new_line

-- the days of a week before the first of the month; a week begins on a Sunday
abbrev pub days_before : ℕ → ℕ → ℕ
days_before month year = (weekday 1 month year + 1) % 7

-- a space and the day in two places: before a single figure there is one more space
abbrev pub day_text : ℕ → Text
day_text day = if nat_lt day 10 then 32 ∷ 32 ∷ decimal day else 32 ∷ decimal day

-- the days of the month, with a new line after each Saturday
abbrev pub calendar_days : ℕ → ℕ → Text
calendar_days month year =
    flat_map (λ day. day_text day ++ (if weekday day month year == 5 then new_line else []))
    (range_with_len 1 (month_length month year))

-- the whole calendar: its title, the line of the weekdays, three spaces for each day before the first, and the days
abbrev pub calendar_prints : ℕ → ℕ → Text
calendar_prints month year =
    calendar_title month year ++ (codes " SU MO TU WE TH FR SA" ++ new_line)
    ++ replicate (3 * days_before month year) 32 ++ calendar_days month year

-- ---- the orders from the entry to the stop

-- how far the weekday of the first of the month is counted up: from 2, a Tuesday, by one for each year since 1901, one
-- more for a leap year, which each fourth of these is, and the days of the months before it
abbrev pub weekday_count : ℕ → ℕ → ℕ
weekday_count month year =
    2 + (year - 1901) + (year - 1901) / 4 + sum (take (month - 1) (month_lengths year))

-- the orders that count: 18 for a year since 1901 and 6 more for a leap year; 4 if the year is one itself; 12 for a
-- month before; 2 for seven days that are taken away
abbrev pub counting_orders : ℕ → ℕ → ℕ
counting_orders month year =
    18 * (year - 1901) + 6 * ((year - 1901) / 4) + (if is_leap year then 4 else 0) + 12 * (month - 1)
    + 2 * (weekday_count month year / 7)

-- the orders for the figures of the year, 8 for each unit of its thousands, hundreds and tens, and 9 for each day before
-- the first
abbrev pub title_orders : ℕ → ℕ → ℕ
title_orders month year =
    8 * (year / 1000 + year / 100 % 10 + year / 10 % 10) + 9 * days_before month year

-- the orders for a day: 45, or with tens 49 and 8 for each ten
abbrev pub day_orders : ℕ → ℕ
day_orders day = if nat_lt day 10 then 45 else 49 + 8 * (day / 10)

-- the orders for all days, and 5 for each Saturday
abbrev pub days_orders : ℕ → ℕ → ℕ
days_orders month year =
    sum (map day_orders (range_with_len 1 (month_length month year)))
    + 5 * ((days_before month year + month_length month year) / 7)

-- the orders that load the tape
abbrev pub calendar_cost : ℕ
calendar_cost = 10987

-- the orders of the program: 13 for each figure that is read, those above, and 454 more
abbrev pub calendar_orders : ℕ → ℕ → ℕ
calendar_orders month year =
    13 * (length (digits month) + length (digits year)) + counting_orders month year + title_orders month year
    + days_orders month year + 454
