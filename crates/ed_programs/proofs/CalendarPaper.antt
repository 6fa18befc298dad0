-- The codes that the program of `examples/calendar.tape` prints are the calendar on paper.
use Rattle.ed_programs.proofs.Kit.{bytes_eq, bytes_eq-Decides, Figures, list_all-numbers, [], ap, append_assoc, arith}
use Rattle.ed_programs.proofs.Kit.{Bool, codes, decimal, false, get_or, if◌then◌else◌, List, nat_lt, refl, rules, suc}
use Rattle.ed_programs.proofs.Kit.{sym, true, zero, ℕ, ◌%◌, ◌*◌, ◌++◌, ◌+◌, ◌-◌, ◌<◌, ◌==◌, ◌∙◌, ◌∷◌, ◌≡◌, ◌≤◌}
use Rattle.ed_programs.proofs.Kit.{nat_tests, Text, paper, digits, number_shown, replicate, paper_from, calendar_prints}
use Rattle.ed_programs.proofs.Kit.{days_before, is_leap, month_length, weekday, calendar_codes, day_codes, days_codes}
use Rattle.ed_programs.proofs.Kit.{head_codes, place, title_codes, year_codes, common_steps}
use Rattle.std.proofs.Common.{flat_map}
use Rattle.ed_programs.specs.Calendar.{calendar_days, day_text, new_line, month_names}
use Rattle.ed_programs.proofs.CalendarCodes.{days_from, range_is, week_end}
use Rattle.ed_programs.proofs.CalendarDays.{days_at_most, days_before_is, weekday_is}

-- ---- the title

title_shown : (k : ℕ) (rest : List ℕ) → k < 12
    → paper (title_codes k ++ rest) ≡ codes "      " ++ (get_or month_names k [] ++ 32 ∷ paper_from Figures rest)
title_shown k rest l = grind (arith, common_steps)

-- ---- figures

year_figures : (year : ℕ) → 1901 ≤ year → year ≤ 2099 → digits year ≡ year_codes year
year_figures year low high = grind (arith, common_steps)

-- ---- the days

spaces_shown : (n : ℕ) (rest : List ℕ)
    → paper_from Figures (replicate n 20 ++ rest) ≡ replicate n 32 ++ paper_from Figures rest
spaces_shown zero rest = refl
spaces_shown (suc n) rest = ap (λ (t : Text). 32 ∷ t) (spaces_shown n rest)

abbrev by_digits : ℕ → List ℕ
by_digits day = if nat_lt day 10 then 20 ∷ 20 ∷ digits day else 20 ∷ digits day

day_shown : (day : ℕ) (rest : List ℕ) → day < 100
    → paper_from Figures (day_codes day ++ rest) ≡ day_text day ++ paper_from Figures rest
day_shown day rest few = ap (λ (cs : List ℕ). paper_from Figures (cs ++ rest)) is ∙ by_test (nat_lt day 10)
  where
    is : day_codes day ≡ by_digits day
    is =
        (bytes_eq-Decides (day_codes day) (by_digits day)).0
        (list_all-numbers (λ day. bytes_eq (day_codes day) (by_digits day)) 0 100 day refl (omega arith) (omega arith))

    by_test : (b : Bool) → paper_from Figures ((if b then 20 ∷ 20 ∷ digits day else 20 ∷ digits day) ++ rest)
        ≡ (if b then 32 ∷ 32 ∷ decimal day else 32 ∷ decimal day) ++ paper_from Figures rest
    by_test true = ap (λ (t : Text). 32 ∷ 32 ∷ t) (number_shown day (omega arith) rest)
    by_test false = ap (λ (t : Text). 32 ∷ t) (number_shown day (omega arith) rest)

regrouped : (a b c d e f g h : Text)
    → a ++ b ++ c ++ d ++ e ++ f ++ g ++ h ≡ a ++ (b ++ (c ++ (d ++ (e ++ (f ++ (g ++ h))))))
regrouped a b c d e f g h = search (rules, append_assoc)

-- the line of the weekdays
abbrev calendar_heads : Text
calendar_heads = codes " SU MO TU WE TH FR SA" ++ new_line

module _ (month year : ℕ) (low : 1901 ≤ year) (high : year ≤ 2099) where
  -- the day and what follows it
  abbrev shown : ℕ → Text
  shown day = day_text day ++ (if weekday day month year == 5 then new_line else [])

  -- the day after which a week is over
  week_over : (day : ℕ) → ((place month year + day) % 7 == 6) ≡ (weekday (suc day) month year == 5)
  week_over day = let falls = weekday_is month year day low high in grind (arith, nat_tests)

  week_shown : (last : Bool) (rest : List ℕ)
      → paper_from Figures (week_end last ++ rest) ≡ (if last then new_line else []) ++ paper_from Figures rest
  week_shown true rest = refl
  week_shown false rest = refl

  -- the codes of n days print them
  days_shown : (n day : ℕ) → day + n < 100
      → paper_from Figures (days_codes ((place month year + day) % 7) (suc day) n)
      ≡ flat_map shown (days_from (suc day) n)
  days_shown zero day few = refl
  days_shown (suc n) day few =
      search (rules, day_shown, week_shown, append_assoc, week_over, days_shown n (suc day) (omega arith))

  pub calendar_shown : 1 ≤ month → month ≤ 12 → paper (calendar_codes month year) ≡ calendar_prints month year
  calendar_shown some few =
      let k : ℕ = month - 1 in
      let p : ℕ = place month year in
      let l : ℕ = month_length month year in
      let days : List ℕ = days_codes p 1 l in
      let after : List ℕ = head_codes ++ (replicate (3 * p) 20 ++ days) in
      let name : Text = get_or month_names k [] in
      let gap : Text = replicate (3 * days_before month year) 32 in
      let most = days_at_most (is_leap year) k in
      let first : p ≡ (p + 0) % 7 = omega arith in
      let before : p ≡ days_before month year = sym (days_before_is month year low high) in
      let all : paper_from Figures days ≡ calendar_days month year =
      ap (λ b. paper_from Figures (days_codes b 1 l)) first ∙ days_shown l 0 (omega arith)
      ∙ ap (λ (ds : List ℕ). flat_map shown ds) (sym (range_is 1 l)) in
      let rest : paper_from Figures (year_codes year ++ after)
      ≡ decimal year ++ (new_line ++ (calendar_heads ++ (gap ++ calendar_days month year))) =
      ap (λ (ds : List ℕ). paper_from Figures (ds ++ after)) (sym (year_figures year low high))
      ∙ number_shown year (omega arith) after
      ∙ ap (λ (t : Text). decimal year ++ (new_line ++ (calendar_heads ++ t))) (spaces_shown (3 * p) days
      ∙ (λ i. replicate (3 * before i) 32 ++ all i)) in
      grind (arith, common_steps, title_shown, regrouped)
