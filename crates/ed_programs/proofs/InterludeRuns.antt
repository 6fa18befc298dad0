-- The text of `examples/interlude.tape`, for any number in range, and what the commands `parts` and `tape` answer to
-- it.
use Rattle.ed_programs.proofs.Kit.{String, Global, Size, spells_append, has_one_reading, Settings, spelled_rows}
use Rattle.ed_programs.proofs.Kit.{digits_of, plain, ReachesEntry, Err, Result, rows, Spells, canonical, canonicals}
use Rattle.ed_programs.proofs.Kit.{INPUT_BYTES, ReachesNextEntry, decimal_is, [], ap, append-nil, append_assoc, arith}
use Rattle.ed_programs.proofs.Kit.{codes, decimal, get_or, length, length-append, List, lit≤, map, None, Ok, refl}
use Rattle.ed_programs.proofs.Kit.{rules, subst, sym, ℕ, ◌*◌, ◌++◌, ◌+◌, ◌<◌, ◌∙◌, ◌∷◌, ◌≡◌, ◌≤◌, leb-true, length-map}
use Rattle.ed_programs.proofs.Kit.{locations, Text, locations_least, State, reading, RowsReachEntry, TapeEntry}
use Rattle.ed_programs.proofs.Kit.{WellFormed, NotationState, rows_of, first_state, GivesProgram, Refusal, digits}
use Rattle.ed_programs.proofs.Kit.{common_steps}
use Rattle.ed_programs.specs.Interlude.{interlude_text, InterludePrints, InterludeRuns, interlude_cost}
use Rattle.ed_programs.specs.declared.interlude.TheConstants.{INTERLUDE}
use Rattle.ed_programs.proofs.InterludeEnds.{back, back_store, entry, entry_on, interlude_away, interlude_leads}
use Rattle.ed_programs.proofs.InterludeEnds.{program_away, program_stops, reopening-back, returned}
use Rattle.ed_programs.proofs.InterludeLoads.{Entered-reads, interlude_items, interlude_reads, program_items}
use Rattle.ed_programs.proofs.InterludeLoads.{program_reads}
use Rattle.ed_programs.proofs.RowTexts.{few_figures, number_spells}
use Rattle.ed_programs.proofs.TapeRuns.{reads_spell}
use Rattle.ed_programs.proofs.TwoParts.{TwoParts, TwoPartsRun, part}
use Rattle.ed_programs.proofs.TwoPartsRuns.{Course, numbers_of, two_parts_run}

-- ---- the number on the tape

-- a number of two or three figures is written in decimal as the loader's items spell it
module _ (n : ℕ) (low : 10 ≤ n) (high : n < 1000) where
  same : digits_of n ≡ digits n
  same = grind (arith, common_steps)

  decimal_spells : Spells (decimal n) (digits_of n)
  decimal_spells = subst (Spells (decimal n)) (sym same) (number_spells n (omega arith))

  figure_count : length (digits_of n) ≡ length (decimal n)
  figure_count =
      ap length same ∙ sym (length-map (digits n) (λ d. 48 + d)) ∙ ap length (decimal_is n (omega arith))

-- ---- the rows of the text

abbrev pieces : List Text
pieces = map (λ piece. piece.now) INTERLUDE

abbrev front : Text
front = get_or pieces 0 []

abbrev behind_number : Text
behind_number = get_or pieces 1 []

few_text : (n : ℕ) → 10 ≤ n → n < 1000 → length (interlude_text n) ≤ INPUT_BYTES
few_text n low high = let few = few_figures n (omega arith) in search (rules, few, leb-true, length-append)

-- the items up to the number, and those after it
abbrev last_rows : List ℕ
last_rows = rows_of (canonical (plain 0 0 17))

abbrev pub program_rows : List ℕ
program_rows = spelled_rows (canonicals program_items) ++ (last_rows ++ [])

abbrev front_rows : List ℕ
front_rows =
    spelled_rows (canonicals (plain 5 100 14 ∷ plain 27 0 14 ∷ plain 28 6 18 ∷ plain 28 6 18 ∷ plain 7 45 17
    ∷ plain 28 5 18 ∷ plain 3 25 17 ∷ plain 5 0 17 ∷ [])) ++ 0 ∷ []

abbrev entering_rows : List ℕ
entering_rows = spelled_rows (canonicals (plain 3 100 14 ∷ []))

abbrev rows_behind : List ℕ
rows_behind = 17 ∷ (entering_rows ++ (last_rows ++ program_rows))

abbrev pub tape_rows : ℕ → List ℕ
tape_rows n = spelled_rows (canonicals (interlude_items n)) ++ (last_rows ++ program_rows)

rows_are : (n : ℕ) → front_rows ++ (digits_of n ++ rows_behind) ≡ tape_rows n
rows_are n = search (rules, append_assoc, append-nil)

pub text_reads : (n : ℕ) → 10 ≤ n → n < 1000 → reading (interlude_text n) ≡ rows (tape_rows n)
text_reads n low high =
    has_one_reading.only (interlude_text n) (rows (tape_rows n))
    (subst (Spells (front ++ (decimal n ++ behind_number))) (rows_are n)
    (spells_append front front_rows (decimal n ++ behind_number) (digits_of n ++ rows_behind)
    (reads_spell front front_rows refl)
    (spells_append (decimal n) (digits_of n) behind_number rows_behind (decimal_spells n low high)
    (reads_spell behind_number rows_behind refl))))

-- ---- the course of the tape

-- the course in plain numbers
abbrev interlude_parts : ℕ → TwoParts
interlude_parts n = record {
  interlude = part 100 (interlude_cost n) (35 + length (decimal n)) 5;
  returns_for = 2 * n;
  program = part 64 280 26 4;
  stop = 68;
}

-- the two loads: the entry to which the rows lead, and the one to which the rows left at the return lead
module _ (z : Size) (n : ℕ) (low : 34 ≤ n) (small : n ≤ 510) (fits : 2 * n + 3 ≤ locations z) where
  abbrev loaded : ℕ
  loaded = 9 + (344 + 9 * length (digits_of n)) + 19

  abbrev read : ℕ
  read = length (spelled_rows (canonicals (interlude_items n))) + 2

  abbrev first : TapeEntry
  first = entry z (tape_rows n) program_rows n loaded read small

  reads : ReachesEntry (first_state z (tape_rows n)) first
  unfolding first_state
  reads =
      let words = (first_state z (tape_rows n)).store.words in
      let size = locations_least z in
      let e = Entered-reads 9 100 program_rows (omega arith) (interlude_reads z words n small) refl (lit≤ tt)
      (omega arith) in
      record { well = e.well; comes = e.comes }

  abbrev home : State
  home = back z (tape_rows n) program_rows n loaded read small

  abbrev second : TapeEntry
  second = entry_on z (tape_rows n) program_rows n loaded read small low fits 26

  reads_on : ReachesNextEntry home second
  reads_on =
      let words = home.store.words in
      let size = locations_least z in
      let e = Entered-reads 2 64 [] (omega arith) (program_reads z words n 200 low fits) refl (lit≤ tt) (omega arith) in
      let same = sym (reopening-back z (tape_rows n) program_rows n loaded read small low fits 26) in
      record {
        well = subst (λ (x : NotationState). WellFormed z words x program_rows) same e.well;
        comes = subst (λ (x : NotationState). RowsReachEntry words x 2 program_rows second) same e.comes;
      }

  abbrev course : Course z (tape_rows n) 68 (15 ∷ 21 ∷ 8 ∷ [])
  course = record {
    interlude = first;
    reads = reads;
    back = home;
    orders = 5;
    leads = interlude_leads z (tape_rows n) program_rows n loaded read small;
    away = interlude_away z (tape_rows n) program_rows n loaded read small;
    returned = returned z (tape_rows n) program_rows n loaded read small;
    is_store = back_store z (tape_rows n) program_rows n loaded read small;
    left = refl;
    program = second;
    reads_on = reads_on;
    orders_on = 3;
    stops = program_stops z (tape_rows n) program_rows n loaded read small low fits 26;
    stays_away = program_away z (tape_rows n) program_rows n loaded read small low fits 26;
  }

  numbers_are : numbers_of course ≡ interlude_parts n
  numbers_are = search (rules, figure_count, length-append, append-nil, rows)

-- ---- the answers

pub each_number : (s : Settings) (n : ℕ) → 34 ≤ n → n ≤ 510 → 2 * n + 3 ≤ locations s.size
    → InterludeRuns s (interlude_text n) n
each_number s n low small fits =
    let runs : TwoPartsRun s (interlude_text n) (interlude_parts n) (codes "HI") =
    subst (λ (t : TwoParts). TwoPartsRun s (interlude_text n) t (codes "HI")) (numbers_are s.size n low small fits)
    (two_parts_run s (interlude_text n) (tape_rows n) (text_reads n (omega arith) (omega arith))
    (few_text n (omega arith) (omega arith)) (course s.size n low small fits) (lit≤ tt)) in
    record { codes_of = runs.codes_of; spelled = runs.spelled; parts = runs.parts; whole = runs.whole }

-- a law of the tape's text is one of the text that is answered
pub interlude_prints_of : (n : ℕ) (r : Result (String Global) Refusal) → GivesProgram None (interlude_text n) r
    → ((s : Settings) → 2 * n + 3 ≤ locations s.size → InterludeRuns s (interlude_text n) n) → InterludePrints n r
interlude_prints_of n (Ok text) gives law = search rules
interlude_prints_of n (Err refusal) gives law = tt
