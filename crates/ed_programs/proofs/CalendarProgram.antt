-- The program of `examples/calendar.tape` from its entry to its stop, for each month from 1901 to 2099.
use Rattle.ed_programs.proofs.Kit.{sum, Z_F, Size, Z, along, to_stop, followed, [], ap, arith, if◌then◌else◌, length}
use Rattle.ed_programs.proofs.Kit.{List, lit<, map, refl, Some, suc, sym, ℕ, ◌%◌, ◌*◌, ◌++◌, ◌+◌, ◌-◌, ◌<◌, ◌==◌, ◌∙◌}
use Rattle.ed_programs.proofs.Kit.{◌∷◌, ◌≡◌, ◌≤◌, Moment, state, Path, digits, ReachesStop, calendar_orders, day_orders}
use Rattle.ed_programs.proofs.Kit.{days_before, is_leap, month_length, month_lengths, weekday_count, calendar_codes, to}
use Rattle.ed_programs.proofs.Kit.{Path-counted, stop_counted}
use Rattle.ed_programs.proofs.CalendarCells.{at, frame, loaded, IsAround, Work}
use Rattle.ed_programs.proofs.CalendarCodes.{range_is}
use Rattle.std.proofs.lemmas.List.Sums.{sum_by-take-le}
use Rattle.ed_programs.proofs.CalendarDays.{days_at_most, days_before_is, leap_is, year_length_is}
use Rattle.ed_programs.proofs.CalendarFigures.{left_by}
use Rattle.ed_programs.proofs.CalendarMonths.{counts_months, takes_sevens}
use Rattle.ed_programs.proofs.CalendarNames.{is_name, letter, name_taken, named}
use Rattle.ed_programs.proofs.CalendarPage.{begins_page, HasEnded-days}
use Rattle.ed_programs.proofs.CalendarReads.{Path-reads}
use Rattle.ed_programs.proofs.CalendarTitle.{headed, prints_heads, prints_title, prints_year, untitled}
use Rattle.ed_programs.proofs.CalendarYears.{after_years, counts_years, weekday_word}
use Rattle.ed_programs.proofs.Orders.{A, G_jumps, T, obeys}

module _ (z : Size) (m : Moment) (o : IsAround m.words) where
  -- at the entry: the month and the year are on the tape
  abbrev pub entering : ℕ → ℕ → Moment
  entering month year = at (record m { tape = digits month ++ 17 ∷ (digits year ++ 17 ∷ []) }) 0 0 loaded m.last

  -- both are read
  abbrev given : ℕ → ℕ → Work
  given month year = record loaded {
    month = month;
    year = year;
    number = year;
    row = 17;
    read_link = to 3 6;
  }

  reads_both : (month year : ℕ) → month < 10000 → year < 10000
      → Path (frame z) (26 + 13 * (length (digits month) + length (digits year))) (entering month year) []
      (at (record m { tape = [] }) 8 0 (after_years 0 7 (given month year)) m.last)
  reads_both month year small_month small_year =
      Path-counted
      (followed (obeys 0 0 (A 0 (to 28 0) ∷ G_jumps 274 ∷ []) refl (omega arith))
      (followed (Path-reads z m o 0 month (digits year ++ 17 ∷ []) loaded m.last (lit< tt) small_month)
      (followed (obeys 2 0 (A 297 month ∷ T 295 ∷ A 4 (to 28 4) ∷ G_jumps 274 ∷ []) refl (omega arith))
      (followed (Path-reads z m o 4 year [] (record loaded {
        month = month;
        number = month;
        row = 17;
        scrap = 7;
        read_link = to 3 2;
      }) m.last (lit< tt) small_year)
      (obeys 6 0 (A 297 year ∷ T 294 ∷ []) refl (omega arith)))))) (omega arith)

  module _ (month year : ℕ) (low_month : 1 ≤ month) (high_month : month ≤ 12) (low : 1901 ≤ year)
      (high : year ≤ 2099) where
    -- the years since 1901, and the months before
    abbrev n : ℕ
    n = year - 1901

    abbrev i : ℕ
    i = month - 1

    -- the weekday before sevens are taken away, and the length of the month
    abbrev v : ℕ
    v = weekday_count month year

    abbrev l : ℕ
    l = month_length month year

    -- in a leap year, the program has counted three years since the last one
    is_third : (n % 4 == 3) ≡ is_leap year
    is_third =
        let from : 1901 + n ≡ year = omega (arith, low) in
        sym (leap_is n (omega (arith, high))) ∙ ap is_leap from

    few_days : l < 100
    few_days = let most = days_at_most (is_leap year) i in omega arith

    few_count : v < 60000
    few_count =
        let some = sum_by-take-le (λ x. x) (month_lengths year) i in
        let all = year_length_is year in
        grind (arith, some, all)

    -- the words after the years, after the months, and above the days
    abbrev after : ℕ → Work
    after x = record (after_years n x (given month year)) { february = if is_leap year then 29 else 28 }

    abbrev counted_to : ℕ → Work
    counted_to x = record (named i (letter i 0) (letter i 1) (letter i 2) (after x)) {
      count = 0;
      weekday = v % 7;
      adds_month = to 28 (324 + i);
      takes_month = to 28 (324 + i);
      days = l;
      scrap = 2 * i;
    }

    -- from the entry to the stop
    pub calendar_stops : (done : ℕ)
        → ReachesStop (calendar_orders month year - 1) (state (frame z) (entering month year) done)
        (calendar_codes month year) 188
    calendar_stops done =
        let m0 : Moment = record m { tape = [] } in
        let before : month ≡ suc i = omega arith in
        let few : i < 12 = omega arith in
        let few_v = few_count in
        let first = reads_both month year (omega arith) (omega arith) in
        let passed =
        counts_years z m0 (given month year) m.last (omega arith) n 7 (is_leap year) is_third (omega arith) in
        let x : ℕ = passed.0 in
        let months = counts_months z m0 o i (weekday_word n) l v (after x) m.last before few refl few_days refl few_v in
        let end : Work = record (after x) {
          count = 0;
          adds_month = to 28 (324 + i);
          takes_month = to 28 (324 + i);
          days = l;
          scrap = 0;
        } in
        let sevens = takes_sevens z m0 o end v m.last (omega arith) in
        let name = name_taken z m0 o i (letter i 0) (letter i 1) (letter i 2) (record end { weekday = v % 7 }) m.last
        before few (is_name i few) in
        let k : Work = untitled i (counted_to x) in
        let title = prints_title z m0 o i (counted_to x) m.last few in
        let figures = prints_year z m0 o year (record k { sign = to 9 168; scrap = 0; sign_link = to 3 86 }) (Some 11)
        refl low (omega arith) in
        let unit : ℕ = year % 10 in
        let heads = prints_heads z m0 o (record (left_by 88 unit k) { sign_link = to 3 86 }) (Some unit) in
        let page : Work = headed i year (counted_to x) in
        let sheet = begins_page z m0 o (v % 7) page (Some 11) refl (omega arith) in
        let days = HasEnded-days z m0 o l few_days l (record page { count = 0; scrap = 0 }) 0 (v % 7) 0 sheet.0
        (omega arith) (omega arith) (lit< tt) in
        let same : v % 7 ≡ days_before month year = sym (days_before_is month year low high) in
        let listed = ap (λ (ds : List ℕ). sum (map day_orders ds)) (range_is 1 l) in
        stop_counted (to_stop (along (followed first (followed passed.1 (followed months (followed sevens (followed name
        (followed title (followed figures (followed heads (followed sheet.1 days.2)))))))))) (Z 131 Z_F refl refl) done)
        (omega arith)
