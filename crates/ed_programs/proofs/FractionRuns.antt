-- What the source of `examples/fraction.edsac` prints, for any fraction in range: its lines, its entry and its law.
use Rattle.ed_programs.proofs.Kit.{length-append, ℕ, length-replicate, parameter_store, stops_from_entry, entry_state}
use Rattle.ed_programs.proofs.Kit.{number_rows, routine_after, all_words, moment_at, append-nil, few_digits, SourceRuns}
use Rattle.ed_programs.proofs.Kit.{data_mark, Settings, State, Line, frame_at, [], arith, settings, digits}
use Rattle.ed_programs.proofs.Kit.{Marked, List, lit≤, map, refl, true, ◌++◌, ◌/◌, ◌<◌, ◌∷◌, ◌≤◌, Text}
use Rattle.ed_programs.proofs.Kit.{Bool, false, read, divide, print, with_h, with_hnm}
use Rattle.std.specs.Fmt.{decimal}
use Rattle.ed_programs.specs.Fraction.{fraction_orders, fraction_prints, fraction_text}
use Rattle.ed_programs.specs.declared.fraction.TheConstants.{FRACTION}
use Rattle.ed_programs.proofs.FractionProgram.{Given, IsAround, Work, cells}
use Rattle.ed_programs.proofs.FractionWhole.{all_shown, few_codes, figure_codes, fraction_stops, quotient_small}
use Rattle.ed_programs.proofs.DataLines.{small_too}
use Rattle.ed_programs.proofs.SourceRuns.{AreSaid, lines_of_pieces, program_runs}

-- the pieces of the source, and the numbers between them
abbrev fraction_pieces : List Text
fraction_pieces = map (λ piece. piece.now) FRACTION

abbrev fraction_data : ℕ → ℕ → ℕ → List Text
fraction_data u l n = decimal u ∷ decimal l ∷ decimal n ∷ []

module _ (u l n : ℕ) (first : u < 65536) (some : 1 ≤ l) (few : l ≤ 6553) (third : n < 65536) where
  abbrev three : List ℕ
  three = u ∷ l ∷ n ∷ []

  abbrev marks : List (Marked true)
  marks =
      data_mark 52 three (lit≤ tt) (lit≤ tt) (lit≤ tt)
      (small_too u (l ∷ n ∷ []) first (small_too l (n ∷ []) (omega arith) (small_too n [] third refl))) ∷ []

  abbrev lines : List Line
  lines = lines_of_pieces true fraction_pieces (fraction_data u l n) marks

  said : AreSaid true fraction_pieces (fraction_data u l n) marks
  unfolding settings parameter_store
  said = refl

  module _ (s : Settings) where
    abbrev given : Given
    given = record {
      f = frame_at 40 s.size (lit≤ tt);
      above = lit≤ tt;
      r = 96;
      d = 120;
      p = 162;
      read_divide = lit≤ tt;
      divide_print = lit≤ tt;
      even = refl;
    }

    abbrev entry : State
    entry = entry_state s.size lines

    is_around : IsAround given (moment_at entry)
    unfolding settings parameter_store
    is_around = record {
      all = all_words s.size lines;
      digits_long = length-replicate {A = Bool} 512 false;
      reads = routine_after s.size lines refl (lit≤ tt) read 96 (with_h 89) refl (lit≤ tt) (lit≤ tt) (lit≤ tt);
      divides =
          routine_after s.size lines refl (lit≤ tt) divide 120 (with_hnm 91 90 92) refl (lit≤ tt) (lit≤ tt) (lit≤ tt);
      prints = routine_after s.size lines refl (lit≤ tt) print 162 (with_h 90) refl (lit≤ tt) (lit≤ tt) (lit≤ tt);
    }

    pub each_fraction : SourceRuns s (fraction_text u l n) (fraction_orders u l n) 89 (fraction_prints u l n)
    unfolding settings
    each_fraction =
        let low : u / l < 65536 = quotient_small u l first some in
        let a = length-append (11 ∷ digits (u / l) ++ 23 ∷ []) (figure_codes u l n) in
        let d = length-append (digits (u / l)) (23 ∷ []) in
        let b = few_digits (u / l) in
        let c = few_codes u l n in
        let work : Work = record { number = 0; low = 0; rest = 0; divisor = 0; scrap = 0 } in
        program_runs s true fraction_pieces (fraction_data u l n) marks said
        (stops_from_entry s.size lines refl 40 (lit≤ tt) (cells 56 96 120 162 work) refl refl entry.tape refl
        (fraction_stops given (moment_at entry) work u l n is_around (append-nil (number_rows three)) refl first some
        few third entry.orders))
        (omega arith) (omega arith) (all_shown u l n (u / l) low)
