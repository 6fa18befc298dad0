-- The source of `demo` from its entry to its stop.
use Rattle.ed_sources.proofs.Kit.{Size, patched-filled, Line, codes, map, None, take, locations_least, HasRoutine}
use Rattle.ed_sources.proofs.Kit.{ReachesStop, [], arith, get_or, inr, List, lit≤, Option, refl, rules, Some, suc, sym}
use Rattle.ed_sources.proofs.Kit.{ℕ, ◌*◌, ◌++◌, ◌+◌, ◌<◌, ◌∙◌, ◌∷◌, ◌≡◌, ◌≤◌, locations, State, state, patched, print}
use Rattle.ed_sources.proofs.Kit.{with_h, digits, print_orders, entry_of, cost, entry_state, demo_cost, demo_sum}
use Rattle.ed_sources.specs.DemoSources.{demo_words}
use Rattle.ed_sources.proofs.AtEntry.{all_words}
use Rattle.ed_sources.proofs.Blocks.{last_at}
use Rattle.ed_sources.proofs.DemoCost.{cost_is}
use Rattle.ed_sources.proofs.DemoFaultless.{lines_with, of_each}
use Rattle.ed_sources.proofs.DemoLoop.{Fine, Given, Turning, at, cells, demo_stops, taking}
use Rattle.ed_sources.proofs.DemoPlaced.{early_word, entry_is, front, length-long, print_image, small_sum, stop_word}
use Rattle.ed_sources.proofs.DemoPlaced.{words_stand}
use Rattle.ed_sources.proofs.Entries.{frame_at, holds_by, moment_at, routine_by}
use Rattle.ed_sources.proofs.SaidDemo.{demo_lines}

-- the program at its entry, with any word at `stop`
abbrev image : List (Option ℕ)
image = map (λ x. Some x) (take 13 (cells 56 72 0 (taking 123) 0 0)) ++ None ∷ Some 0 ∷ Some 0 ∷ []

-- the sum is one that `print` takes
pub sum_small : (n : ℕ) → n ≤ 112 → demo_sum n < 65536
sum_small n few = let e = small_sum (8 * n) n in omega (arith, e)

-- with n segments after the first
module _ (z : Size) (n : ℕ) (few : n ≤ 111) (fits : 123 + 8 * suc n ≤ locations z) where
  abbrev words : ℕ
  words = 8 * suc n

  abbrev last_line : ℕ
  last_line = 19 + 9 * suc n

  abbrev lines : List Line
  lines = lines_with (codes "s1") words n (suc n) last_line

  abbrev s : State
  s = entry_state z lines

  abbrev known : ℕ → Option ℕ
  known = last_at (front words n (suc n) last_line)

  abbrev stop : ℕ
  stop = get_or s.store.words 69 0

  same : patched 0 s.store.words 56 (cells 56 72 stop (taking 123) 0 0) ≡ s.store.words
  same =
      let all = all_words z lines in
      patched-filled image s.store.words 56 (omega arith)
      (holds_by z lines known 123 (early_word words n (suc n) last_line z few) image 56 refl (lit≤ tt) (lit≤ tt))

  has_print : HasRoutine (frame_at 16 z (lit≤ tt)) s.store.words print 72 (with_h 71)
  has_print =
      let size = locations_least z in
      routine_by z lines known 123 (early_word words n (suc n) last_line z few) (frame_at 16 z (lit≤ tt)) print 72
      (with_h 71) (print_image words n (suc n) last_line) (lit≤ tt) (lit≤ tt) (lit≤ tt) (omega arith) (inr (lit≤ tt))

  abbrev given : Given
  given = record {
    f = frame_at 16 z (lit≤ tt);
    above = lit≤ tt;
    e = 123 + words;
    w = 72;
    stop = stop;
    stop_is = early_word words n (suc n) last_line z few 69 (lit≤ tt) (lit≤ tt)
        ∙ stop_word words n (suc n) last_line (omega arith);
    room = fits;
    around = moment_at s;
    all = all_words z lines;
    at2 = refl;
    prints = has_print;
  }

  abbrev first : Turning
  first = record { q = 123; left = 0; scrap = 0; total = 0 }

  fine : Fine given (demo_sum (suc n)) first (demo_words (suc n))
  fine = search (rules, words_stand, length-long)

  begins : state given.f (at given 0 0 (taking 123) 0 0) s.orders ≡ s
  begins = λ i. record s {
    store = record { words = same i; sandwich = s.store.sandwich };
    counter = sym (entry_is words n (suc n) last_line) i;
  }

  ends_so : ReachesStop (9 * words + (3 + print_orders (demo_sum (suc n)))) s (11 ∷ digits (demo_sum (suc n))) 69
  ends_so =
      let count = length-long words n (suc n) last_line in
      rw (count, begins) at
      (demo_stops given (demo_sum (suc n)) (sum_small (suc n) (omega arith)) first (demo_words (suc n)) (omega arith)
      fine s.orders)

pub demo_entry : (n : ℕ) → 1 ≤ n → n ≤ 112 → entry_of (demo_lines n) ≡ 56
demo_entry = of_each (λ n ls. entry_of ls ≡ 56) (λ n few. entry_is (8 * suc n) n (suc n) (19 + 9 * suc n))

pub demo_ends : (z : Size) (n : ℕ) → 1 ≤ n → n ≤ 112 → 123 + 8 * n ≤ locations z
    → ReachesStop (72 * n + 3 + print_orders (demo_sum n)) (entry_state z (demo_lines n)) (11 ∷ digits (demo_sum n)) 69
demo_ends z = of_each (λ n ls. 123 + 8 * n ≤ locations z
    → ReachesStop (72 * n + 3 + print_orders (demo_sum n)) (entry_state z ls) (11 ∷ digits (demo_sum n)) 69)
    (λ n few fits.
    let count : 72 * suc n + 3 + print_orders (demo_sum (suc n))
    ≡ 9 * (8 * suc n) + (3 + print_orders (demo_sum (suc n))) = omega arith in
    rw count (ends_so z n few fits))

-- what its tape costs
pub demo_cost_is : (n : ℕ) → 1 ≤ n → n ≤ 112 → cost (demo_lines n) ≡ demo_cost n
demo_cost_is =
    of_each (λ n ls. cost ls ≡ demo_cost n) (λ n few. cost_is (8 * suc n) n (suc n) (19 + 9 * suc n) (omega arith))
