-- The program of `examples/fraction.edsac` from its entry to its stop, and the figures that it prints.
use Rattle.ed_programs.proofs.Kit.{div-lt_iff_lt-mul, mod-lt, div-add-mod, Z_F, Figures, Z, along, Journey, stop_after}
use Rattle.ed_programs.proofs.Kit.{then, to_stop, prints, [], ap, append-nil, append_assoc, arith, decimal, length}
use Rattle.ed_programs.proofs.Kit.{length-append, List, lit<, lit≤, refl, Some, subst, suc, sym, zero, ℕ, ◌%◌, ◌*◌}
use Rattle.ed_programs.proofs.Kit.{◌++◌, ◌+◌, ◌/◌, ◌<◌, ◌^◌, ◌∙◌, ◌∷◌, ◌≡◌, ◌≤◌, Text, paper, Moment, state, Path, stay}
use Rattle.ed_programs.proofs.Kit.{own, digits, print_orders, few_digits, ReachesStop, divide_orders, number_shown}
use Rattle.ed_programs.proofs.Kit.{paper_from, figure_orders, HasRead, reads_number, number_rows, journey_counted}
use Rattle.ed_programs.proofs.Kit.{stop_counted, common_steps, rules}
use Rattle.std.proofs.Math.Nat.{div-le_self, add-mul-div_left, add-mul-mod_self_left, mul_assoc, pow-succ'}
use Rattle.ed_programs.specs.Fraction.{figure, figures}
use Rattle.ed_programs.proofs.FractionProgram.{Given, IsAround, Turned, Work, after_read, at, Part-divided, in_at}
use Rattle.ed_programs.proofs.FractionProgram.{Part-printed, Turned-digit}
use Rattle.ed_programs.proofs.NumberShown.{then_on}
use Rattle.ed_programs.proofs.Orders.{A, G_jumps, S, T, obeys}
use Rattle.ed_machine.proofs.Kit.Moves as moves

-- ---- division as on paper: the figure and what is left, by those of the place before

module _ (u l n : ℕ) (some : 0 < l) where
  abbrev before : ℕ
  before = 10 ^ n * u

  abbrev left : ℕ
  left = before % l

  next : 10 ^ (n + 1) * u ≡ 10 * left + l * (10 * (before / l))
  next = grind (arith, common_steps, div-add-mod, pow-succ', mul_assoc)

  pub digit_small : 10 * left / l < 10
  digit_small = let low = mod-lt before some in (div-lt_iff_lt-mul {k = l} {x = 10 * left} {y = 10} some).1
      (omega arith)

  pub figure_is : 10 * left / l ≡ figure u l (n + 1)
  figure_is =
      let low = digit_small in
      let whole = ap (λ x. x / l) next ∙ add-mul-div_left (10 * left) (10 * (before / l)) some in
      sym (ap (λ x. x % 10) whole ∙ omega arith)

  pub left_is : 10 * left % l ≡ 10 ^ (n + 1) * u % l
  left_is = sym (ap (λ x. x % l) next ∙ add-mul-mod_self_left (10 * left) l (10 * (before / l)))

pub quotient_small : (u l : ℕ) → u < 65536 → 1 ≤ l → u / l < 65536
quotient_small u l small some = omega (arith, div-le_self u l)

-- the orders of the parts of the program, and of all of it
orders_are : (a b c v q m : ℕ)
    → (13 + 13 * a) + (2 + ((13 + 13 * b) + (2 + ((13 + 13 * c) + ((2 + v) + ((2 + q) + 1)))))) + (m + 4)
    ≡ 13 * a + 13 * b + 13 * c + v + q + m + 52
orders_are a b c v q m = omega arith

-- ---- what the figures print

abbrev pub figure_codes : ℕ → ℕ → ℕ → List ℕ
figure_codes u l zero = []
figure_codes u l (suc n) = figure_codes u l n ++ 11 ∷ digits (figure u l (n + 1))

figures_shown : (u l n : ℕ) (rest : List ℕ)
    → paper_from Figures (figure_codes u l n ++ rest) ≡ figures u l n ++ paper_from Figures rest
figures_shown u l zero rest = refl
figures_shown u l (suc n) rest =
    let x : ℕ = figure u l (n + 1) in
    ap (paper_from Figures) (append_assoc (figure_codes u l n) (11 ∷ digits x) rest)
    ∙ figures_shown u l n (11 ∷ digits x ++ rest)
    ∙ ap (λ (t : Text). figures u l n ++ t) (number_shown x (omega arith) rest)
    ∙ sym (append_assoc (figures u l n) (decimal x) (paper_from Figures rest))

pub all_shown : (u l n w : ℕ) → w < 65536
    → paper ((11 ∷ digits w ++ 23 ∷ []) ++ figure_codes u l n) ≡ decimal w ++ 46 ∷ figures u l n
all_shown u l n w small =
    ap paper (append_assoc (11 ∷ digits w) (23 ∷ []) (figure_codes u l n))
    ∙ number_shown w small (23 ∷ figure_codes u l n)
    ∙ ap (λ (t : Text). decimal w ++ 46 ∷ t)
    (ap (paper_from Figures) (sym (append-nil (figure_codes u l n))) ∙ figures_shown u l n []
    ∙ append-nil (figures u l n))

pub few_codes : (u l n : ℕ) → length (figure_codes u l n) ≤ 6 * n
few_codes u l zero = omega arith
few_codes u l (suc n) = search (rules, length-append, few_digits, few_codes u l n)

-- ---- the loop

module _ (given : Given) where
  open given use {f, above, r, d, p}

  -- after n figures, with m more to come
  reached : (around : Moment) (k : Work) (u l n m : ℕ) → IsAround given around → k.number ≡ n + m → n + m < 65536
      → k.rest ≡ u % l → k.divisor ≡ l → 0 < l → l ≤ 6553
      → Turned given (at given around 15 k) (figure_orders u l n) (figure_codes u l n) m (10 ^ n * u % l) l
  reached around k u l zero m o number few is_rest is_by some most_by = record {
    now = around;
    work = k;
    is = o;
    number = number ∙ omega arith;
    rest_is = is_rest ∙ (let e : u ≡ 10 ^ 0 * u = omega arith in ap (λ x. x % l) e);
    by_is = is_by;
    journey = along stay;
  }
  reached around k u l (suc n) m o number few is_rest is_by some most_by =
      let one = reached around k u l n (suc m) o (number ∙ omega arith) (omega arith) is_rest is_by some most_by in
      let t = Turned-digit given one.now one.work m (left u l n some) l one.is one.number
      (omega arith) one.rest_is one.by_is
      (mod-lt (10 ^ n * u) some) most_by (digit_small u l n some) in
      record {
        now = t.now;
        work = t.work;
        is = t.is;
        number = t.number;
        rest_is = t.rest_is ∙ left_is u l n some
            ∙ (let e : n + 1 ≡ suc n = omega arith in ap (λ i. 10 ^ i * u % l) e);
        by_is = t.by_is;
        journey =
            subst (λ x. Journey f (figure_orders u l n + 17 + divide_orders x + print_orders x) (at given around 15 k)
            (figure_codes u l n ++ 11 ∷ digits x) (at given t.now 15 t.work)) (figure_is u l n some)
            (journey_counted (then one.journey t.journey) (omega arith));
      }

  -- and after the last
  ends : (around : Moment) (k : Work) (u l n : ℕ) → IsAround given around → k.number ≡ n → k.rest ≡ u % l
      → k.divisor ≡ l → 0 < l → l ≤ 6553 → n < 65536 → (done : ℕ)
      → ReachesStop (figure_orders u l n + 4) (state f (at given around 15 k) done) (figure_codes u l n) (f.base + 33)
  ends around k u l n o number is_rest is_by some few small done =
      let all = reached around k u l n 0 o (number ∙ omega arith) (omega arith) is_rest is_by some few in
      let none = all.number in
      to_stop (then_on all.journey
      (obeys 15 0 (T 39 ∷ A 33 0 ∷ S 38 131071 ∷ G_jumps 32 ∷ []) refl (omega arith)))
      (Z 32 Z_F refl refl) done

  -- ---- the program

  -- a number that was read is kept in another cell
  kept : (around : Moment) (k : Work) (n : ℕ) → n < 65536
      → Path f 2 (at given around 2 (record k { number = n })) [] (at given around 4 (record k { number = n; low = n }))
  kept around k n small = obeys 2 0 (A 33 n ∷ T 34 ∷ []) refl (omega arith)

  kept_too : (around : Moment) (k : Work) (n : ℕ) → n < 65536
      → Path f 2 (at given around 6 (record k { number = n })) []
      (at given around 8 (record k { number = n; divisor = n }))
  kept_too around k n small = obeys 6 0 (A 33 n ∷ T 36 ∷ []) refl (omega arith)

  pub fraction_stops : (around : Moment) (k : Work) (u l n : ℕ) → IsAround given around
      → around.tape ≡ number_rows (u ∷ l ∷ n ∷ []) → k.rest ≡ 0 → u < 65536 → 1 ≤ l → l ≤ 6553 → n < 65536 → (done : ℕ)
      → ReachesStop (13 * length (digits u) + 13 * length (digits l) + 13 * length (digits n) + divide_orders (u / l)
      + print_orders (u / l) + figure_orders u l n + 52)
      (state f (at given around 0 k) done) ((11 ∷ digits (u / l) ++ 23 ∷ []) ++ figure_codes u l n) (f.base + 33)
  fraction_stops around k u l n o tape clear small_u some few_l small_n done =
      let small_l : l < 65536 = omega (arith, few_l) in
      let one : HasRead (in_at given around 0 k o) 0 33 r u (number_rows (l ∷ n ∷ [])) =
      reads_number (in_at given around 0 k o) 0 33 u _ o.reads tape small_u (lit< tt) (lit≤ tt) refl refl refl in
      let m1 : Moment = record around { words = one.words; tape = number_rows (l ∷ n ∷ []) } in
      let o1 = after_read given around {k = k} o one in
      let k1 : Work = record k { number = u; low = u } in
      let two : HasRead (in_at given m1 4 k1 o1) 4 33 r l (number_rows (n ∷ [])) =
      reads_number (in_at given m1 4 k1 o1) 4 33 l _ o1.reads refl small_l (lit< tt) (lit≤ tt) refl refl refl in
      let m2 : Moment = record m1 { words = two.words; tape = number_rows (n ∷ []) } in
      let o2 = after_read given m1 {k = k1} o1 two in
      let k2 : Work = record k1 { number = l; divisor = l } in
      let three : HasRead (in_at given m2 8 k2 o2) 8 33 r n [] =
      reads_number (in_at given m2 8 k2 o2) 8 33 n _ o2.reads refl small_n (lit< tt) (lit≤ tt) refl refl refl in
      let m3 : Moment = record m2 { words = three.words; tape = [] } in
      let k3 : Work = record k2 { number = n } in
      let four = Part-divided given m3 10 k3 (after_read given m2 {k = k2} o2 three) (lit≤ tt) refl u l clear refl refl
      small_u some few_l refl in
      let k4 : Work = record k3 { rest = u % l; low = u / l } in
      let five = Part-printed given four.now 12 k4 four.is (lit≤ tt) refl (u / l) refl (quotient_small u l small_u some)
      refl in
      let first = then one.journey (then (along (kept m1 k u small_u))
      (then two.journey (then (along (kept_too m2 k1 l small_l))
      (then three.journey (then four.journey
      (then five.journey (along (prints (moves.O 14 (own 37) 23 refl refl) stay)))))))) in
      let rest = ends (record five.now { last = Some 23 }) k4 u l n five.is refl refl refl some few_l small_n in
      stop_counted (stop_after (first.leads done) refl (rest _)) (orders_are (length (digits u)) (length (digits l))
      (length (digits n)) (divide_orders (u / l)) (print_orders (u / l)) (figure_orders u l n))
