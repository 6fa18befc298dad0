-- What `examples/calendar.tape` prints, for every month from January 1901 to December 2099.
use Rattle.ed_programs.proofs.Kit.{none, spacing, spells_append, has_one_reading, Settings, rows, Spells, INPUT_BYTES}
use Rattle.ed_programs.proofs.Kit.{[], arith, decimal, length, length-append, refl, rules, suc, zero, ℕ, ◌*◌, ◌++◌, ◌%◌}
use Rattle.ed_programs.proofs.Kit.{◌∷◌, ◌≡◌, ◌≤◌, leb-true, length-replicate, digits, reading, paper_room}
use Rattle.ed_programs.proofs.Kit.{calendar_orders, calendar_prints, TapeRuns, calendar_codes, days_codes}
use Rattle.ed_codes.specs.Text.{row}
use Rattle.ed_programs.specs.Calendar.{calendar_cost, calendar_text}
use Rattle.ed_programs.proofs.CalendarEnds.{front, calendar_arrives, calendar_ends, calendar_entry, calendar_rows}
use Rattle.ed_programs.proofs.CalendarEnds.{data_rows}
use Rattle.ed_programs.proofs.CalendarPaper.{calendar_shown}
use Rattle.ed_programs.proofs.CalendarDays.{days_at_most}
use Rattle.ed_programs.proofs.RowTexts.{few_figures, number_spells}
use Rattle.ed_programs.proofs.TapeRuns.{reads_spell, rows_in, tape_runs}

-- ---- the rows of the text

module _ (month year : ℕ) (small : month ≤ 65535) (low : year ≤ 65535) where
  year_spells : Spells (decimal year ++ 70 ∷ 10 ∷ []) (digits year ++ 17 ∷ [])
  year_spells =
      spells_append (decimal year) (digits year) (70 ∷ 10 ∷ []) (17 ∷ []) (number_spells year low)
      (row 70 17 (10 ∷ []) [] refl (spacing 10 [] [] refl none))

  data_spells : Spells (decimal month ++ 70 ∷ (decimal year ++ 70 ∷ 10 ∷ [])) (data_rows month year)
  data_spells =
      spells_append (decimal month) (digits month) (70 ∷ (decimal year ++ 70 ∷ 10 ∷ []))
      (17 ∷ (digits year ++ 17 ∷ [])) (number_spells month small)
      (row 70 17 (decimal year ++ 70 ∷ 10 ∷ []) (digits year ++ 17 ∷ []) refl year_spells)

  pub text_reads : reading (calendar_text month year) ≡ rows (calendar_rows (data_rows month year))
  text_reads =
      has_one_reading.only (calendar_text month year) (rows (calendar_rows (data_rows month year)))
      (spells_append front (rows_in front) (decimal month ++ 70 ∷ (decimal year ++ 70 ∷ 10 ∷ []))
      (data_rows month year) (reads_spell front (rows_in front) refl) data_spells)

  pub few_text : length (calendar_text month year) ≤ INPUT_BYTES
  few_text = search (rules, few_figures, leb-true, length-append)

-- ---- the number of codes

few_days_codes : (before day n : ℕ) → length (days_codes before day n) ≤ 5 * n
few_days_codes before day zero = omega arith
few_days_codes before day (suc n) = let rest = few_days_codes (suc before % 7) (suc day) n in grind arith

few_codes : (month year : ℕ) → 1 ≤ month → month ≤ 12 → length (calendar_codes month year) ≤ paper_room
few_codes month year some few = search (rules, length-append, length-replicate, few_days_codes, days_at_most)

-- ---- the law

pub each_month : (s : Settings) (month year : ℕ) → 1 ≤ month → month ≤ 12 → 1901 ≤ year → year ≤ 2099
    → TapeRuns s (calendar_text month year) calendar_cost (calendar_orders month year) 188 (calendar_prints month year)
each_month s month year some few low high =
    let rest = data_rows month year in
    tape_runs s (calendar_text month year) (calendar_rows rest) (calendar_entry rest)
    (text_reads month year (omega arith) (omega arith)) (few_text month year (omega arith) (omega arith))
    (calendar_arrives s.size rest) (calendar_ends s month year some few low high) (few_codes month year some few)
    (omega arith) (calendar_shown month year low high some few)
