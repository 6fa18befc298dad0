-- What the source of `examples/answer6.edsac` prints, for any eight numbers: its lines, its entry and its law.
use Rattle.ed_programs.proofs.Kit.{map, parameter_store, digits_printed, spread_pieces, routine_after, stops_from_entry}
use Rattle.ed_programs.proofs.Kit.{all_words, have_places, moment_at, few_digits, entry_state, greatest_of, SourceRuns}
use Rattle.ed_programs.proofs.Kit.{Settings, Size, word_at, frame_at, decimal, and_parts, ltb-true, settings, are_small}
use Rattle.ed_programs.proofs.Kit.{State, placed, arith, codes, get_or, length, nat_lt, ℕ, locations_least, print}
use Rattle.ed_programs.proofs.Kit.{with_h, Marked, Line, [], ap, drop, List, lit<, lit≤, refl, true, ◌+◌, ◌<◌, ◌∙◌, ◌∷◌}
use Rattle.ed_programs.proofs.Kit.{◌≡◌, ◌≤◌, Text}
use Rattle.ed_programs.specs.Greatest.{greatest_orders, greatest_text}
use Rattle.ed_programs.specs.declared.greatest.TheConstants.{GREATEST}
use Rattle.ed_programs.proofs.DataLines.{small_at}
use Rattle.ed_programs.proofs.GreatestProgram.{Given, Stand, Turning, cells, getting, greatest_stops}
use Rattle.ed_programs.proofs.NumberLines.{plain_mark, word_mark}
use Rattle.ed_programs.proofs.ProgramEntry.{words_from}
use Rattle.ed_programs.proofs.SourceRuns.{AreSaid, lines_of_pieces, program_runs}

-- the pieces of the source around eight numbers
abbrev greatest_pieces : List Text
greatest_pieces = spread_pieces 7 (10 ∷ codes "word ") (map (λ piece. piece.now) GREATEST)

greatest_small : (ns : List ℕ) → are_small ns ≡ true → greatest_of ns < 65536
greatest_small [] h = lit< tt
greatest_small (n ∷ ns) h =
    let p = and_parts (nat_lt n 65536) (are_small ns) h in
    omega (arith, ltb-true n 65536 p.0, greatest_small ns p.1)

-- numbers that the source places from a location upwards are there at its entry
pub numbers_stand : (z : Size) (lines : List Line) → have_places (placed lines) ≡ true → (q : ℕ) (ns : List ℕ) → 44 ≤ q
    → q + length ns ≤ 1024 → words_from (placed lines) q (length ns) ≡ ns → are_small ns ≡ true
    → Stand (entry_state z lines).store.words q ns
numbers_stand z lines fit q [] low high are small = tt
numbers_stand z lines fit q (n ∷ ns) low high are small =
    let p = and_parts (nat_lt n 65536) (are_small ns) small in (
      word_at z lines fit q low (omega arith) ∙ ap (λ (xs : List ℕ). get_or xs 0 0) are,
      ltb-true n 65536 p.0,
      numbers_stand z lines fit (q + 1) ns (omega arith) (omega arith) (ap (λ (xs : List ℕ). drop 1 xs) are) p.1,
    )

module _ (a b c d e f g h : ℕ) (small : are_small (a ∷ b ∷ c ∷ d ∷ e ∷ f ∷ g ∷ h ∷ []) ≡ true) where
  abbrev ns : List ℕ
  ns = a ∷ b ∷ c ∷ d ∷ e ∷ f ∷ g ∷ h ∷ []

  below : (i : ℕ) → i < 8 → get_or ns i 0 < 65536
  below = small_at ns small

  abbrev marks : List (Marked true)
  marks =
      word_mark 29 a (below 0 (lit< tt)) (codes "list") (lit≤ tt) refl ∷ plain_mark 30 b (below 1 (lit< tt)) (lit≤ tt)
      ∷ plain_mark 31 c (below 2 (lit< tt)) (lit≤ tt) ∷ plain_mark 32 d (below 3 (lit< tt)) (lit≤ tt)
      ∷ plain_mark 33 e (below 4 (lit< tt)) (lit≤ tt) ∷ plain_mark 34 f (below 5 (lit< tt)) (lit≤ tt)
      ∷ plain_mark 35 g (below 6 (lit< tt)) (lit≤ tt) ∷ plain_mark 36 h (below 7 (lit< tt)) (lit≤ tt) ∷ []

  abbrev lines : List Line
  lines = lines_of_pieces true greatest_pieces (map decimal ns) marks

  said : AreSaid true greatest_pieces (map decimal ns) marks
  unfolding settings parameter_store
  said = refl

  module _ (s : Settings) where
    abbrev entry : State
    entry = entry_state s.size lines

    given : Given
    unfolding settings parameter_store
    given = record {
      f = frame_at 23 s.size (lit≤ tt);
      above = lit≤ tt;
      e = 87;
      p = 88;
      room = let size = locations_least s.size in omega arith;
      around = moment_at entry;
      all = all_words s.size lines;
      at2 = refl;
      prints = routine_after s.size lines refl (lit≤ tt) print 88 (with_h 76) refl (lit≤ tt) (lit≤ tt) (lit≤ tt);
    }

    eight_run : SourceRuns s (greatest_text ns) (greatest_orders ns) 76 (decimal (greatest_of ns))
    unfolding settings given
    eight_run =
        let low = greatest_small ns small in
        let few = few_digits (greatest_of ns) in
        let first : Turning = record { q = 79; left = 0; most = 0; scrap = 0 } in
        let stand : Stand entry.store.words 79 ns =
        numbers_stand s.size lines refl 79 ns (lit≤ tt) (lit≤ tt) refl small in
        program_runs s true greatest_pieces (map decimal ns) marks said
        (stops_from_entry s.size lines refl 23 (lit≤ tt) (cells 56 87 88 (getting 79) (getting 79) 0 0) refl refl []
        refl
        (greatest_stops given first ns
        (record { stand = stand; ends = refl; from = lit≤ tt; small = lit< tt; low = lit< tt }) refl entry.orders))
        (omega arith) (omega arith) (digits_printed (greatest_of ns) low)

pub each_greatest : (s : Settings) (ns : List ℕ) → length ns ≡ 8 → are_small ns ≡ true
    → SourceRuns s (greatest_text ns) (greatest_orders ns) 76 (decimal (greatest_of ns))
each_greatest s (a ∷ b ∷ c ∷ d ∷ e ∷ f ∷ g ∷ h ∷ []) eight small = eight_run a b c d e f g h small s
each_greatest s ns eight small = absurd (omega arith)
