-- A call of `divide` as one line: the three words are cells of the piece, and it writes two of them.
use Rattle.ed_programs.proofs.Kit.{length-set, A_F, is_working, set, all_long, beside_word, called, IsIn, Journey}
use Rattle.ed_programs.proofs.Kit.{IsLoadedAt-called, Jumps, Reads, any, get_own, [], arith, Bool, false, get_or, inl}
use Rattle.ed_programs.proofs.Kit.{inr, length, List, refl, rules, subst, ℕ, ◌%◌, ◌*◌, ◌+◌, ◌/◌, ◌<◌, ◌∙◌, ◌≡◌, ◌≢◌}
use Rattle.ed_programs.proofs.Kit.{◌≤◌, ◌⊎◌, locations, locations_most, short_at, State, Frame, Moment, short, state}
use Rattle.ed_programs.proofs.Kit.{own, place_count, IsOther, IsLoadedAt, HasRoutine, divide, divide_orders, with_hnm}
use Rattle.ed_maths.proofs.Kit.{length_patched, IsOutside, within_size, dividend}
use Rattle.ed_machine.proofs.Kit.Frames.{all_words}
use Rattle.ed_programs.proofs.Changes.{after_change, Part-changes, set_own, still_has}
use Rattle.ed_maths.proofs.DivideCall as divide_call

-- the words of the division: cells jh, jl and jy of a piece of n, with the numbers in them; and the store's digits
pub record IsDivided (n : ℕ) (r : Moment) (jh jl jy high low by : ℕ) : Type 0 where
  pub in_high : jh < n
  pub in_low : jl < n
  pub in_by : jy < n
  pub high_low : jh ≢ jl
  pub high_by : jh ≢ jy
  pub low_by : jl ≢ jy
  pub is_high : get_or r.cells jh 0 ≡ high
  pub is_low : get_or r.cells jl 0 ≡ low
  pub is_by : get_or r.cells jy 0 ≡ by
  pub positive : 1 ≤ by
  pub fits : by ≤ 32767
  pub less : high < by
  pub small : low < 65536
  pub digits_long : length r.digits ≡ 512

-- a moment of a piece without long words of its own
abbrev pub flat : Moment → Moment
flat r = record r { pairs = [] }

module _ {n h : ℕ} {f : Frame n h} (r : Moment) (o : IsIn f (flat r)) where
  -- the quotient and the remainder of x by y are in the cells, and the routines are as before
  pub record HasDivided (i w jh jl x y : ℕ) : Type 0 where
    pub words : List ℕ
    pub digits : List Bool
    pub digits_long : length digits ≡ 512
    pub journey : Journey f (2 + divide_orders (x / y)) (flat r) []
        (after_change o i words digits (set (set r.cells jh (x % y)) jl (x / y)) r.tape r.last)
    pub all : length words ≡ 1024
    pub has : {r1 w1 : ℕ} {others : List ℕ} → HasRoutine f r.words r1 w1 others
        → ((m : ℕ) → m < place_count r1 → is_working r1 m ≡ false → IsOther divide w (w1 + m))
        → HasRoutine f words r1 w1 others

  module _ {w jh jl jy high low by : ℕ} (i : ℕ)
      (has : HasRoutine f r.words divide w (with_hnm (f.base + jh) (f.base + jl) (f.base + jy)))
      (even : w % 2 ≡ 0) (d : IsDivided n r jh jl jy high low by) (room : i + 3 ≤ n) where
    abbrev t : ℕ → State
    t done = state f (called o i w) done

    abbrev x : ℕ
    x = 65536 * high + low

    -- a cell of the piece is outside the routine, and holds its number
    outside : (done j : ℕ) → j < n → IsOutside divide w (f.base + j) (t done)
    outside done j l = search rules

    own_is : (done j v : ℕ) → j < n → get_or r.cells j 0 ≡ v → short_at (t done).store (f.base + j) ≡ v
    own_is done j v l is = let long = o.own in get_own 0 r.words f.base r.cells j (omega arith) ∙ is

    apart_cells : (j k : ℕ) → j ≢ k → f.base + j ≢ f.base + k
    apart_cells j k other e = other (omega (arith, e))

    there : (done : ℕ) → IsLoadedAt divide (with_hnm (f.base + jh) (f.base + jl) (f.base + jy)) w (t done)
    there done = IsLoadedAt-called o i done room has

    dividing : (done : ℕ) → IsLoadedAt divide (with_hnm (f.base + jh) (f.base + jl) (f.base + jy)) w (t done)
        → divide_call.CallsDivide w (f.base + jh) (f.base + jl) (f.base + jy) (locations f.size) (t done)
    dividing done stand =
        let is_high = own_is done jh high d.in_high d.is_high in
        let is_low = own_is done jl low d.in_low d.is_low in
        let is_by = own_is done jy by d.in_by d.is_by in
        record {
          all = all_long o;
          all_digits = d.digits_long;
          stands = stand;
          even = even;
          division = record {
            high_outside = outside done jh d.in_high;
            low_outside = outside done jl d.in_low;
            by_outside = outside done jy d.in_by;
            high_low = apart_cells jh jl d.high_low;
            high_by = apart_cells jh jy d.high_by;
            low_by = apart_cells jl jy d.low_by;
            positive = let a = d.positive in omega (arith, a, is_by);
            divisor = let a = d.fits in omega (arith, a, is_by);
            less = let a = d.less in omega (arith, a, is_by, is_high);
            small = let a = d.small in omega (arith, a, is_low);
          };
          within = within_size stand (outside done jh d.in_high);
          near_low = (outside done jl d.in_low).below;
          near_by = (outside done jy d.in_by).below;
        }

    abbrev last : State
    last = divide_call.last (dividing 0 (there 0))

    number : (done : ℕ) → dividend (f.base + jh) (f.base + jl) (t done) ≡ x
    number done = λ k. 65536 * own_is done jh high d.in_high d.is_high k + own_is done jl low d.in_low d.is_low k

    divisor : (done : ℕ) → short_at (t done).store (f.base + jy) ≡ by
    divisor done = own_is done jy by d.in_by d.is_by

    quotient : get_or last.store.words (f.base + jl) 0 ≡ x / by
    quotient =
        (divide_call.HasDivided-last (dividing 0 (there 0)) last refl).quotient ∙ (λ k. number 0 k / divisor 0 k)

    remainder : get_or last.store.words (f.base + jh) 0 ≡ x % by
    remainder =
        (divide_call.HasDivided-last (dividing 0 (there 0)) last refl).remainder ∙ (λ k. number 0 k % divisor 0 k)

    keeps : (q : ℕ) → q ≢ f.base + jh → q ≢ f.base + jl → IsOther divide w q
        → get_or last.store.words q 0 ≡ get_or (all_words f (flat r)) q 0
    keeps = (divide_call.HasDivided-last (dividing 0 (there 0)) last refl).words

    abbrev cells_divided : List ℕ
    cells_divided = set (set r.cells jh (x % by)) jl (x / by)

    same_cells : (m : ℕ) → m < n → get_or last.store.words (f.base + m) 0 ≡ get_or cells_divided m 0
    same_cells m l =
        search (rules, length-set, divide, set_own, quotient, remainder, keeps, apart_cells, get_own)

    -- outside the piece only the routine's working locations change
    beside : (q : ℕ) → (q < f.base) ⊎ (f.base + n ≤ q) → IsOther divide w q
        → get_or last.store.words q 0 ≡ get_or r.words q 0
    beside q place other =
        keeps q (differs jh d.in_high place) (differs jl d.in_low place) other ∙ beside_word o q place
      where
        differs : (j : ℕ) → j < n → (q < f.base) ⊎ (f.base + n ≤ q) → q ≢ f.base + j
        differs j l (inl b) e = absurd (omega arith)
        differs j l (inr b) e = absurd (omega arith)

    pub divide_line : r.acc ≡ 0 → Reads {f = f} {r = flat r} i 28 (own i)
        → Jumps {f = f} {r = record (flat r) { acc = short (A_F + 2 * (f.base + i)); counter = f.base + (i + 1) }}
        (i + 1) 27 (any w has.reached)
        → HasDivided i w jh jl (65536 * high + low) by
    divide_line clear first second =
        let size = locations_most f.size in
        let under = has.fits in
        let first_long = length-set r.cells jh (x % by) in
        let long = length-set (set r.cells jh (x % by)) jl (x / by) in
        let own_long = o.own in
        let orders : divide_orders (dividend (f.base + jh) (f.base + jl) (t 0) / short_at (t 0).store (f.base + jy))
        ≡ divide_orders (x / by) = λ k. divide_orders (number 0 k / divisor 0 k) in
        record {
          words = last.store.words;
          digits = last.store.sandwich;
          digits_long = length_patched false r.digits (w / 2 + 18) _ (let l = d.digits_long in omega arith)
              ∙ d.digits_long;
          journey = subst (λ k. Journey f (2 + k) (flat r) []
              (after_change o i last.store.words last.store.sandwich cells_divided r.tape r.last)) orders
              (Part-changes o i last.store.words last.store.sandwich cells_divided r.tape r.last has
              (λ done stand. divide_call.leads_to (dividing done stand))
              (divide_call.length-divided (dividing 0 (there 0))) (omega arith) same_cells room clear first second);
          all = divide_call.length-divided (dividing 0 (there 0));
          has = still_has {f = f} o.above has.low beside;
        }
