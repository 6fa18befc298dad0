-- The names that the proof of a program cites, passed on from one place, and what its path says in few words.
pub use Rattle.std.proofs.Common.{div-lt_iff_lt-mul, get_or-set_other, get_or-set_same, length-set, mod-lt, String, sum}
pub use Rattle.std.specs.declared.alloc.Global.{Global}
pub use Rattle.std.proofs.lemmas.Grind.{common_steps}
pub use Rattle.std.proofs.Math.Nat.{div-add-mod, mul-le-mul_right}
pub use Rattle.std.proofs.lemmas.List.{length-reverse}
pub use Rattle.ed_words.specs.declared.order_words.TheConstants.{A_F, E_F, G_F, H_F, L_D, O_F, R_F, S_F, T_F, U_F, Z_F}
pub use Rattle.ed_words.specs.declared.size.Size.{Size}
pub use Rattle.ed_words.specs.declared.size.Size.TheVariants.{Full, Small}
pub use Rattle.ed_codes.specs.Text.{none, spacing}
pub use Rattle.ed_codes.proofs.Pieces.{spells_append}
pub use Rattle.ed_codes.proofs.Readings.{has_one_reading}
pub use Rattle.ed_printer.specs.declared.printer.Shift.TheVariants.{Figures, Letters}
pub use Rattle.ed_machine.proofs.Kit.Loops.{all_spent, quiet_walks, walked}
pub use Rattle.ed_machine.proofs.Kit.Moves.{I, O, Z}
pub use Rattle.ed_machine.proofs.Kit.Places.{IsOutside}
pub use Rattle.ed_machine.proofs.Kit.Shifts.{L1F, L512F}
pub use Rattle.ed_machine.proofs.Kit.Sums.{Remains}
pub use Rattle.ed_machine.proofs.Kit.Window.{patched_self}
pub use Rattle.ed_machine.proofs.Steps.{no_step}
pub use Rattle.ed_run.specs.declared.settings.Settings.{Settings}
pub use Rattle.ed_notation.specs.declared.item.Item.{Item}
pub use Rattle.ed_notation.proofs.Kit.{ltb-false, spelled_rows, digits_of}
pub use Rattle.ed_notation.proofs.Steps.{plain}
pub use Rattle.ed_notation.proofs.Texts.{AreCodes}
pub use Rattle.ed_initial.specs.Entry.{at_entry, ReachesEntry}
pub use Rattle.ed_initial.proofs.Quiet.{comes_in}
pub use Rattle.ed_initial1.specs.Entry.{at_entry1}
pub use Rattle.ed_initial1.specs.Items.{Item1}
pub use Rattle.ed_lines.specs.declared.program.Line.{Line}
pub use Rattle.ed_lines.specs.declared.program.Operand.TheVariants.{Label}
pub use Rattle.ed_lines.specs.declared.program.Statement.{Statement}
pub use Rattle.ed_lines.specs.declared.program.Statement.TheVariants.{Enter, Fetch}
pub use Rattle.ed_syntax.proofs.Kit.{Err, Result, bytes_eq, bytes_eq-Decides, is_place_name, array, has_quote}
pub use Rattle.ed_syntax.proofs.Kit.{IsProgram}
pub use Rattle.ed_syntax.proofs.PartLemmas.{quote_parts}
pub use Rattle.ed_library.specs.Routines.{is_working}
pub use Rattle.ed_symbols.specs.declared.symbols.Definition.{Definition}
pub use Rattle.ed_link.proofs.Extents.{are_below, ExtentList, past}
pub use Rattle.ed_link.proofs.Kit.{set, sum_by, reverse-append, rows, Spells, canonical, canonicals, entry}
pub use Rattle.ed_link.proofs.Kit.{routine_word, table_item, counter_after, place_on, even_from, extent, fault_from}
pub use Rattle.ed_link.proofs.Kit.{operand_number}
pub use Rattle.ed_routines.proofs.Journeys.{after_call, all_long, along, beside_word, called, IsOther-beside, has_after}
pub use Rattle.ed_routines.proofs.Journeys.{IsIn, Journey, no_working, IsLoadedAt-called, still_in, stop_after, then}
pub use Rattle.ed_routines.proofs.Journeys.{to_stop}
pub use Rattle.ed_routines.proofs.Kit.{E_jumps, Jumps, Reads, U, prints, any, early, out, LD, value_after}
pub use Rattle.ed_routines.proofs.Lines.{newline_line, print_goes, print_left, print_line}
unfoldable pub use Rattle.ed_checker.specs.Checker.{checked_codes}
pub use Rattle.ed_checker.specs.Laws.{HasGuest}
pub use Rattle.ed_checker.proofs.Kit.{IsStore, followed, get_own, IsAllowed}
unfoldable pub use Rattle.ed_checker.proofs.Kit.{checked_orders}
pub use Rattle.ed_tapes.specs.Answer.{IsDue}
pub use Rattle.ed_tapes.specs.declared.input.TheConstants.{INPUT_BYTES}
pub use Rattle.ed_headline.proofs.Kit.{entry_line, exactly, OfReading}
pub use Rattle.ed_interlude.specs.Returned.{ReachesNextEntry}
pub use Rattle.ed_interlude.proofs.Kit.{returned_line, directive, IsReturned}
pub use Rattle.ed_sources.proofs.AtEntry.{all_words, have_places, placed, word_at}
pub use Rattle.ed_sources.proofs.Decimals.{list_all-numbers, are_digits-digits, decimal_is, digit_bytes, few_bytes}
pub use Rattle.ed_sources.proofs.Decimals.{line_bytes, numbers, row_bytes, rows_are, run_bytes, some_digit, value_is}
pub use Rattle.ed_sources.proofs.Decimals.{written}
pub use Rattle.ed_sources.proofs.Entries.{frame_at, moment_at}
pub use Rattle.ed_sources.proofs.Kit.{[], ap, append-nil, append_assoc, arith, Bool, codes, decimal, drop, false}
pub use Rattle.ed_sources.proofs.Kit.{get_or, if◌then◌else◌, inl, inr, length, length-append, List, lit<, lit≤, map}
pub use Rattle.ed_sources.proofs.Kit.{nat_eq, nat_le, nat_lt, None, not, Ok, Option, pos, refl, reverse, rules, Some}
pub use Rattle.ed_sources.proofs.Kit.{string_bytes, subst, suc, sym, take, true, unwrap_or, zero, ℕ, ◌%◌, ◌*◌, ◌++◌}
pub use Rattle.ed_sources.proofs.Kit.{◌+◌, ◌-◌, ◌/◌, ◌<◌, ◌==◌, ◌^◌, ◌||◌, ◌∙◌, ◌∷◌, ◌≡◌, ◌≢◌, ◌≤◌, ◌⊎◌, list_all}
pub use Rattle.ed_sources.proofs.Kit.{and_from, and_parts, cases_lt, eqb-true, le-leb, le-ltb, leb-true, lt-ltb}
pub use Rattle.ed_sources.proofs.Kit.{ltb-true, ne_eqb, not-true, nat_tests, length-map, length-replicate}
pub use Rattle.ed_sources.proofs.Kit.{list_all-append, sum_by-cons, value, locations, Text, locations_least}
pub use Rattle.ed_sources.proofs.Kit.{locations_most, row_of, paper, short_at, State, state_after, Frame, Moment, short}
pub use Rattle.ed_sources.proofs.Kit.{state, Leads-append, Leads, A, Leads-path, on, Path, stay, own, placed_at}
pub use Rattle.ed_sources.proofs.Kit.{is_run_byte, is_line_byte, is_number, LinePart, run, sign, form_at, row, spells}
pub use Rattle.ed_sources.proofs.Kit.{parts_of, is_two, line_of, lines_from, program_of, run_parts, image_word}
pub use Rattle.ed_sources.proofs.Kit.{place_count, first_counter, fault, entry_of, linked_words, symbols_of, cost}
pub use Rattle.ed_sources.proofs.Kit.{counter, newline, print, read, with_h, digits, print_orders, IsOther, IsLoadedAt}
pub use Rattle.ed_sources.proofs.Kit.{digits_law, few_digits, HasRoutine, ReachesStop, divide, divide_orders, with_hnm}
pub use Rattle.ed_sources.proofs.Kit.{guest, at_after, entry_state, AnswersFromEntry, run_outcome, read_is_accepted}
pub use Rattle.ed_sources.proofs.Kit.{accepted_is, each_answer_is_from_entry, filled_text, text_of_lines}
unfoldable pub use Rattle.ed_sources.proofs.Kit.{step, progress, patched, run_end, settings, parameter_store}
pub use Rattle.ed_sources.proofs.Papers.{digits_printed, number_shown}
pub use Rattle.ed_sources.proofs.Said.{a_number, said}
pub use Rattle.ed_sources.proofs.Stopped.{ran_outcome-answered, nothing_after, stopped_outcome}
pub use Rattle.ed_sources.proofs.Stops.{ran_to_stop}
pub use Rattle.ed_top.specs.Output.{output}
pub use Rattle.ed_laws.specs.TapeEntries.{tape_state}
pub use Rattle.ed_laws.proofs.Kit.{replicate, true≢false, ◌&&◌, reading, paper_from, is_obeyed, stops_of}
pub use Rattle.ed_laws.proofs.Kit.{RowsReachEntry, TapeEntry, WellFormed, NotationState, over, AreDigits, rows_of}
pub use Rattle.ed_laws.proofs.Kit.{opening, LeadsIn, first_store, IsStarted-first_state, ReachesEntry1, Tape, Outcome}
pub use Rattle.ed_laws.proofs.Kit.{IsAcceptedAs, paper_room, ran_outcome, with_post_mortem, OfSource, tape_outcome}
unfoldable pub use Rattle.ed_laws.proofs.Kit.{reading_on, first_state, first_state1}
pub use Rattle.ed_programs.specs.Calendar.{calendar_orders, calendar_prints, day_orders, days_before, is_leap}
pub use Rattle.ed_programs.specs.Calendar.{month_length, month_lengths, weekday, weekday_count}
pub use Rattle.ed_programs.specs.Celsius.{celsius_text}
pub use Rattle.ed_programs.specs.Decimals.{carries, decimals_prints, factorial, parts, tenfold}
pub use Rattle.ed_programs.specs.FirstTapes.{FirstTapeRuns}
pub use Rattle.ed_programs.specs.Fraction.{figure_orders}
pub use Rattle.ed_programs.specs.Greatest.{greatest_of, rises}
pub use Rattle.ed_programs.specs.Guests.{checked_text, checker_base, EntersChecker, entry_guest, stopped_orders}
pub use Rattle.ed_programs.specs.Guests.{StopsAtZ, use_check}
pub use Rattle.ed_programs.specs.Hello.{hello_text, is_capital, of_letters}
pub use Rattle.ed_programs.specs.Lists.{list_refusal, numbers_text, on_lines}
pub use Rattle.ed_programs.specs.Mirror.{mirror_text}
pub use Rattle.ed_programs.specs.Programs.{GivesProgram, SourceRuns, spread_pieces}
pub use Rattle.ed_programs.specs.Sort.{along_orders, changes, sent_along}
pub use Rattle.ed_programs.specs.Tapes.{TapeRuns}
pub use Rattle.ed_programs.specs.Total.{total_text}
pub use Rattle.ed_programs.specs.declared.refusal.Refusal.{Refusal}
pub use Rattle.ed_programs.proofs.CalendarCodes.{calendar_codes, day_codes, days_codes, head_codes, name_codes, place}
pub use Rattle.ed_programs.proofs.CalendarCodes.{title_codes, year_codes}
pub use Rattle.ed_programs.proofs.Changes.{HasRead, reads_number}
pub use Rattle.ed_programs.proofs.DataLines.{all_fit, are_small, data_mark, number_rows}
pub use Rattle.ed_programs.proofs.NumberShown.{HasShown, shows_number}
pub use Rattle.ed_programs.proofs.ProgramEntry.{routine_after, stops_from_entry}
pub use Rattle.ed_programs.proofs.SourceLines.{Marked}
pub use Rattle.ed_programs.proofs.Texts.{prints_as}
use Rattle.ed_sources.proofs.AtEntry.{has_image}

-- the order with a function that names cell j of a program at 56
abbrev pub to : ℕ → ℕ → ℕ
to function j = 4096 * function + 2 * (56 + j)

-- the jump to a routine at a place: G
abbrev pub calling : ℕ → ℕ
calling place = G_F + 2 * place

-- the order that prints the code at a place: O
abbrev pub printing : ℕ → ℕ
printing place = O_F + 2 * place

-- the order that returns after a call from cell j: E
abbrev pub link : ℕ → ℕ
link j = to 3 (j + 2)

-- the moment before the order at a location, with v in the accumulator and these cells
abbrev pub before_order : Moment → ℕ → ℕ → List ℕ → Moment
before_order m counter v cells = record m { cells = cells; pairs = []; acc = short v; counter = counter }

-- a piece of n cells from a location on
abbrev pub frame_from : (n base : ℕ) (z : Size) → base + n ≤ 512 → Frame n 0
frame_from n base z few =
    record {
      size = z;
      base = base;
      top = locations z;
      under = (let size = locations_least z in omega arith);
      fits = omega arith;
    }

-- a path, and where it stops, by another count of its orders
pub Path-counted : {n a b : ℕ} {f : Frame n 0} {r t : Moment} {codes : List ℕ} → Path f a r codes t → a ≡ b
    → Path f b r codes t
Path-counted {f = f} {r} {t} {codes} path e = subst (λ k. Path f k r codes t) e path

pub journey_counted : {n a b : ℕ} {f : Frame n 0} {r t : Moment} {codes : List ℕ} → Journey f a r codes t → a ≡ b
    → Journey f b r codes t
journey_counted {f = f} {r} {t} {codes} journey e = subst (λ k. Journey f k r codes t) e journey

pub stop_counted : {a b at : ℕ} {s : State} {codes : List ℕ} → ReachesStop a s codes at → a ≡ b
    → ReachesStop b s codes at
stop_counted {at = at} {s} {codes} stop e = subst (λ k. ReachesStop k s codes at) e stop

-- `read` and `print` beside a program, for its cells j and i, and what `read` leaves of them
pub record HasPair {n : ℕ} (f : Frame n 0) (words : List ℕ) (r p j i : ℕ) : Type 0 where
  pub all : length words ≡ 1024
  pub reads : HasRoutine f words read r (with_h (f.base + j))
  pub prints : HasRoutine f words print p (with_h (f.base + i))
  pub apart : r + 24 ≤ p

pub pair_after : {n k j i r p v : ℕ} {rest : List ℕ} {f : Frame n 0} {m : Moment} {o : IsIn f m}
    (read_one : HasRead o k j r v rest) → HasPair f m.words r p j i → HasPair f read_one.words r p j i
pair_after {r = r} {p} read_one pair =
    let other = pair.apart in
    record {
      all = read_one.still_in.all;
      reads = read_one.has pair.reads (λ k l free. no_working k free);
      prints = read_one.has pair.prints (λ k l free. IsOther-beside (p + k) (inr (omega arith)));
      apart = pair.apart;
    }

-- the two at the entry of a source, whose program is n cells from 56 on
pub pair_at_entry : (z : Size) (lines : List Line) (n : ℕ) (few : n ≤ 456) (r p j i : ℕ)
    → (have_places (placed lines) && (has_image (placed lines) read r (with_h (56 + j))
    && has_image (placed lines) print p (with_h (56 + i)))) ≡ true
    → 56 + n ≤ r → r + 24 ≤ p → p ≤ 400 → HasPair (frame_at n z few) (entry_state z lines).store.words r p j i
pair_at_entry z lines n few r p j i test under apart high =
    let a = and_parts (have_places (placed lines)) _ test in
    let b = and_parts (has_image (placed lines) read r (with_h (56 + j))) _ a.1 in
    record {
      all = all_words z lines;
      reads = routine_after z lines a.0 few read r (with_h (56 + j)) b.0 under (omega arith) (omega arith);
      prints = routine_after z lines a.0 few print p (with_h (56 + i)) b.1 (omega arith) (omega arith) (omega arith);
      apart = apart;
    }

-- `newline` beside them too
pub record HasThree {n : ℕ} (f : Frame n 0) (words : List ℕ) (r p w j : ℕ) : Type 0 where
  pub both : HasPair f words r p j j
  pub lines : HasRoutine f words newline w []
  pub beyond : p + 51 ≤ w

pub three_read : {n i j r p w v : ℕ} {rest : List ℕ} {f : Frame n 0} {m : Moment} {o : IsIn f m}
    (read_one : HasRead o i j r v rest) → HasThree f m.words r p w j → HasThree f read_one.words r p w j
three_read {w = w} read_one three =
    let apart = three.both.apart in
    let beyond = three.beyond in
    record {
      both = pair_after read_one three.both;
      lines = read_one.has three.lines (λ k l free. IsOther-beside (w + k) (inr (omega arith)));
      beyond = beyond;
    }

pub three_shown : {n i j r p w v : ℕ} {f : Frame n 0} {m : Moment} {o : IsIn f m} (shown : HasShown o i j p w v)
    → HasThree f m.words r p w j → HasThree f shown.words r p w j
three_shown shown three = grind (arith, common_steps)

pub three_at_entry : (z : Size) (lines : List Line) (n : ℕ) (few : n ≤ 456) (r p w j : ℕ)
    → (have_places (placed lines) && (has_image (placed lines) read r (with_h (56 + j))
    && has_image (placed lines) print p (with_h (56 + j)))) ≡ true
    → has_image (placed lines) newline w [] ≡ true
    → 56 + n ≤ r → r + 24 ≤ p → p + 51 ≤ w → w ≤ 450
    → HasThree (frame_at n z few) (entry_state z lines).store.words r p w j
three_at_entry z lines n few r p w j test last under apart beyond high = record {
  both = pair_at_entry z lines n few r p j j test under apart (omega arith);
  lines = routine_after z lines (and_parts (have_places (placed lines)) _ test).0 few newline w [] last (omega arith)
      (omega arith) (omega arith);
  beyond = beyond;
}
