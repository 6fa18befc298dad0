-- One turn of the routine: it obeys one order of its guest.
use Rattle.ed_checker.proofs.Kit.{nat_le, ◌≢◌, cases_eq, A_F, L_F, kinds, Kind, E, G, followed, get_own, [], ap, arith}
use Rattle.ed_checker.proofs.Kit.{Bool, false, get_or, inl, inr, List, nat_eq, nat_lt, None, Option, refl, rules, Some}
use Rattle.ed_checker.proofs.Kit.{subst, suc, sym, true, zero, ℕ, ◌%◌, ◌&&◌, ◌*◌, ◌++◌, ◌+◌, ◌/◌, ◌<◌, ◌^◌, ◌∙◌, ◌∷◌}
use Rattle.ed_checker.proofs.Kit.{◌≡◌, ◌≤◌, and_parts, cases_lt, nat_tests, locations, within, address_of, function_of}
use Rattle.ed_checker.proofs.Kit.{locations_most, IsStore, kind_of_function, done_at, jump_order, next_word, obey_word}
use Rattle.ed_checker.proofs.Kit.{Obeyed, step, State, codes_of, is_obeyed, stops_of, if◌then◌else◌, lit≤, Frame, state}
use Rattle.ed_checker.proofs.Kit.{Path, Agree, CheckerStands, guest, IsAllowed, IsAllowedOrder, IsOutsideChecker}
use Rattle.ed_checker.proofs.Kit.{turn_orders, HasRun}
use Rattle.ed_routines.proofs.Kit.{le-ltb, lt-ltb, Leads-path}
use Rattle.std.proofs.Common.{◌||◌, append-nil}
use Rattle.std.proofs.lemmas.Bool.{eq-eqb, ne_eqb, le-leb, lt-leb}
use Rattle.ed_words.proofs.SizeLemmas.{within_below}
use Rattle.ed_machine.specs.declared.turn.Turn.TheVariants.{Went}
use Rattle.ed_machine.proofs.Kit.Frames.{Beside}
use Rattle.ed_machine.proofs.Kit.Places.{IsOutside as IsPlaceOutside}
use Rattle.ed_checker.specs.Checker.{IsPlainJump}
use Rattle.ed_checker.proofs.AccFits.{acc_fits}
use Rattle.ed_checker.proofs.Alike.{Alike, Outcome, agree_with, is_planted, Outcome-planted}
use Rattle.ed_checker.proofs.Halves.{long_fits}
use Rattle.ed_checker.proofs.HasRun.{HasRun-joined, HasRun-one, HasRun-along}
use Rattle.ed_checker.proofs.Opening.{around, HasCells, state-opened, frame, work, HasCells-holds, guest_counter}
use Rattle.ed_checker.proofs.Opening.{guest_acc, stands_again, alike_around}
use Rattle.ed_checker.proofs.Paths.{IsSaved, Work, Around, cells, pairs, moment, Path-fetch, below_E, above_E, below_G}
use Rattle.ed_checker.proofs.Paths.{above_G, Path-restore, Path-save, Path-advance, E_taken, E_passed, G_taken}
use Rattle.ed_checker.proofs.Paths.{G_passed}
use Rattle.ed_checker.proofs.Saving.{high_of, middle_of, low_of, whole-saved, middle_fits, high_fits as high_of_fits}

-- what a turn does: k orders lead from m to t, where the routine is at the start of a turn and the guest past its order
pub record Turned (base : ℕ) (m : State) : Type 0 where
  pub after : State
  pub count : ℕ
  pub exact : count ≡ turn_orders (guest base m)
  pub most : count ≤ 35
  pub ran : HasRun count m (function_of (next_word (guest base m)) ∷ codes_of (step (guest base m)).turn)
      (stops_of (step (guest base m)).turn) after
  pub stands : CheckerStands base after
  pub agree : Agree base (guest base after) (step (guest base m)).state
  pub size : after.size ≡ m.size

-- if the guest's order is a stop or cannot be obeyed: the routine reaches it, and it does the same there
pub record Reached (base : ℕ) (m : State) : Type 0 where
  pub after : State
  pub count : ℕ
  pub exact : count + 17 ≡ turn_orders (guest base m)
  pub most : count ≤ 18
  pub ran : HasRun count m (function_of (next_word (guest base m)) ∷ []) 0 after
  pub counter : after.counter ≡ base + 40
  pub turn : (step after).turn ≡ (step (guest base m)).turn
  pub agree : Agree base (guest base after) (guest base m)

-- an order is E, G or another one
pub by_function : {P : Type 0} (n : ℕ) → (n ≡ 3 → P) → (n ≡ 27 → P) → (n ≢ 3 → n ≢ 27 → P) → P
by_function n is_E is_G other =
    elim (cases_eq n 3) [
      | inl e ↦ is_E e
      | inr no3 ↦ elim (cases_eq n 27) [ inl e ↦ is_G e | inr no27 ↦ other no3 no27 ]
    ]

-- the kinds of all functions but 3 and 27 are obeyed at the routine's own location
abbrev all_but : List (Option Kind) → ℕ → Bool
all_but [] i = true
all_but (k ∷ ks) i = (is_planted k || (nat_eq i 3 || nat_eq i 27)) && all_but ks (i + 1)

apart_from : (i : ℕ) (b : Bool) → i ≢ 3 → i ≢ 27 → (b || (nat_eq i 3 || nat_eq i 27)) ≡ true → b ≡ true
apart_from i b a b0 h = search rules

planted_at : (ks : List (Option Kind)) (i n : ℕ) → all_but ks i ≡ true → i + n ≢ 3 → i + n ≢ 27
    → is_planted (get_or ks n None) ≡ true
planted_at [] i n h a b = refl
planted_at (k ∷ ks) i zero h a b =
    let p = and_parts (is_planted k || (nat_eq i 3 || nat_eq i 27)) (all_but ks (i + 1)) h in
    let e : i + 0 ≡ i = omega arith in
    apart_from i (is_planted k) (λ x. a (e ∙ x)) (λ x. b (e ∙ x)) p.0
planted_at (k ∷ ks) i (suc n) h a b =
    let p = and_parts (is_planted k || (nat_eq i 3 || nat_eq i 27)) (all_but ks (i + 1)) h in
    let e : i + suc n ≡ i + 1 + n = omega arith in
    planted_at ks (i + 1) n p.1 (λ x. a (e ∙ x)) (λ x. b (e ∙ x))

pub other_planted : (n : ℕ) → n ≢ 3 → n ≢ 27 → is_planted (kind_of_function n) ≡ true
other_planted n a b = let e : 0 + n ≡ n = omega arith
    in planted_at kinds 0 n refl (λ x. a (sym e ∙ x)) (λ x. b (sym e ∙ x))

module _ (base : ℕ) (even_base : base % 2 ≡ 0) (m : State) (store : IsStore m.store)
    (room : base + 66 ≤ locations m.size)
    (stands : CheckerStands base m) (ok : IsAllowed base (guest base m)) where
  abbrev f : Frame 66 30
  f = frame base even_base m store room

  abbrev w0 : Work
  w0 = work base even_base m store room

  abbrev o : Around
  o = around m

  abbrev g : State
  g = guest base m

  -- the guest's counter, its order, and the function of that
  abbrev c : ℕ
  c = g.counter

  abbrev x : ℕ
  x = next_word g

  abbrev n : ℕ
  n = function_of x

  x_fits : x < 2 ^ 17
  x_fits = store.fits c

  c_fits : c + 1 < 1024
  c_fits = let b = locations_most m.size in omega (arith, ok.next)

  low_count : ℕ
  low_count = w0.low / 2 ^ 32

  low_fits : low_count < 4
  unfolding low_count
  low_fits = let a = stands.low_few in omega arith

  low_is : w0.low ≡ low_count * 2 ^ 32
  unfolding low_count
  low_is = let a = stands.low in omega arith

  high_fits : w0.high < 2 ^ 35
  high_fits = long_fits base even_base m store 60 refl

  saved_now : IsSaved w0.high w0.middle w0.low
  saved_now = record {
    digits = low_count;
    few = low_fits;
    low_is = low_is;
    middle_fits = stands.middle;
    high_fits = high_fits;
  }

  begins : state f (moment base o w0 0 0 m.last) m.orders ≡ m
  begins =
      subst (λ a. state f (moment base o w0 a 0 m.last) m.orders ≡ m) stands.acc
      (state-opened f even_base w0 m 0 (HasCells-holds base even_base m store room stands)
      (omega (arith, stands.counter)))

  at0_is : w0.at0 ≡ A_F + 2 * c
  at0_is = let z : base + 0 ≡ base = omega arith in ap (λ j. get_or m.store.words j 0) z ∙ stands.fetch

  c_outside : IsPlaceOutside f o.words c
  c_outside = record { below = omega (arith, ok.next); beside = by_side ok.outside }
    where
      by_side : IsOutsideChecker base c → Beside o.words base 66 c
      by_side (inl l) = let all = store.words_are in inl (l, omega (arith, c_fits))
      by_side (inr g) = inr g

  -- the words after the order is copied
  abbrev w1 : Work
  w1 = record w0 { at40 = x }

  fetched : Path f 3 (moment base o w0 0 0 m.last) (n ∷ []) (moment base o w1 (x * 2 ^ 54) 3 (Some n))
  fetched = Path-fetch f even_base o w0 at0_is c_outside refl x_fits

  -- the routine reaches the copied order
  record Arrives : Type 0 where
    count : ℕ
    most : count ≤ 18
    exact : count + 17 ≡ turn_orders g
    at59 : ℕ
    runs : Path f count (moment base o w0 0 0 m.last) (n ∷ [])
        (moment base o (record w1 { at59 = at59 }) g.acc 40 (Some n))

  restored : (k acc : ℕ) → k ≤ 5 → 3 + (k + 10) + 17 ≡ turn_orders g
      → Path f k (moment base o w1 (x * 2 ^ 54) 3 (Some n)) [] (moment base o w1 acc 30 (Some n)) → Arrives
  restored k acc h e r = record {
    count = 3 + (k + 10);
    most = omega arith;
    exact = e;
    at59 = acc / 2 ^ 54;
    runs = followed fetched (followed r
        (Path-restore f even_base o w1 saved_now));
  }

  by_tests : {a3 a27 b3 b16 b27 : Bool} → nat_eq n 3 ≡ a3 → nat_eq n 27 ≡ a27 → nat_lt n 3 ≡ b3 → nat_lt n 16 ≡ b16
      → nat_lt n 27 ≡ b27
      → turn_orders g
      ≡ (if a3 then (if nat_lt g.acc (2 ^ 70) then 16 else 17)
      else if a27 then (if nat_lt g.acc (2 ^ 70) then 18 else 16)
      else if b3 then 33
      else if b16 then 35
      else if b27 then 33
      else 35)
  by_tests e1 e2 e3 e4 e5 = rw (e1, e2, e3, e4, e5) refl

  arrives : n ≢ 3 → n ≢ 27 → Arrives
  arrives no3 no27 =
      let e3 = ne_eqb n 3 no3 in
      let e27 = ne_eqb n 27 no27 in
      elim (cases_lt n 3) [
        | inl l ↦ restored 3 _ (lit≤ tt) (sym (by_tests e3 e27 (lt-ltb n 3 l) refl refl))
            (below_E f even_base o w1 x (Some n) (omega arith))
        | inr g3 ↦
            elim (cases_lt n 16) [
              | inl l ↦
                  restored 5 _ (lit≤ tt) (sym
                  (by_tests e3 e27 (le-ltb n 3 g3) (lt-ltb n 16 l) refl))
                  (above_E f even_base o w1 x (Some n) (let h : 4 ≤ n = omega arith in omega arith) (omega arith))
              | inr g16 ↦
                  elim (cases_lt n 27) [
                    | inl l ↦
                        restored 3 _ (lit≤ tt) (sym
                        (by_tests e3 e27 (le-ltb n 3 g3) (le-ltb n 16 g16)
                        (lt-ltb n 27 l)))
                        (below_G f even_base o w1 x (Some n) (omega arith) (omega arith))
                    | inr g27 ↦
                        restored 5 _ (lit≤ tt) (sym
                        (by_tests e3 e27 (le-ltb n 3 g3) (le-ltb n 16 g16)
                        (le-ltb n 27 g27)))
                        (above_G f even_base o w1 x (Some n) (let h : 28 ≤ n = omega arith in omega arith) x_fits)
                  ]
            ]
      ]

  module _ (no3 : n ≢ 3) (no27 : n ≢ 27) where
    abbrev to : Arrives
    to = arrives no3 no27

    may : is_planted (kind_of_function n) ≡ true
    may = other_planted n no3 no27

    abbrev w2 : Work
    w2 = record w1 { at59 = to.at59 }

    -- the machine at the copied order
    abbrev m1 : State
    m1 = state f (moment base o w2 g.acc 40 (Some n)) (m.orders + to.count)

    reached : HasRun to.count m (n ∷ []) 0 m1
    reached = subst (λ s. HasRun to.count s (n ∷ []) 0 m1) begins (HasRun-along (Leads-path to.runs m.orders))

    -- what the copied order does, to the machine and to the guest
    abbrev r1 : Obeyed
    r1 = obey_word (kind_of_function n) x m1

    at_m1 : step m1 ≡ r1
    unfolding step
    at_m1 = search (rules, get_own)

    at_g : step g ≡ obey_word (kind_of_function n) x g
    unfolding step
    at_g = refl

    a1 : Alike base m1 g
    a1 = alike_around f w2 g refl store.words_are store.digits_are 40

    result : Outcome base m1 g r1 (obey_word (kind_of_function n) x g)
    result = Outcome-planted even_base a1 (kind_of_function n) x may ok.order

    same_turn : r1.turn ≡ (step g).turn
    same_turn = result.turn ∙ ap (λ (y : Obeyed). y.turn) (sym at_g)

    reaches : Reached base m
    reaches = record {
      after = m1;
      count = to.count;
      exact = to.exact;
      most = to.most;
      ran = reached;
      counter = refl;
      turn = ap (λ (y : Obeyed). y.turn) at_m1 ∙ same_turn;
      agree = agree_with a1 (guest_acc f even_base o w2)
          (guest_counter f even_base o w2 c at0_is (omega (arith, c_fits)));
    }

    -- the machine after it
    abbrev m2 : State
    m2 = r1.state

    acc_whole : g.acc < 2 ^ 71
    acc_whole =
        let a = high_fits in
        let b = stands.middle in
        let d = low_fits in
        let e : g.acc ≡ w0.high * 2 ^ 36 + 4 * w0.middle + low_count * 2 ^ 32 / 2 ^ 32 = rw (← low_is) refl in
        rw e (omega arith)

    m2_acc : m2.acc < 2 ^ 71
    m2_acc = acc_fits (kind_of_function n) x m1 acc_whole

    m1_word : (j : ℕ) → j < 66 → get_or m1.store.words (base + j) 0 ≡ get_or (cells base w2) j 0
    m1_word j h = get_own 0 m.store.words base (cells base w2) j h

    m1_digit : (j : ℕ) → j < 3 → get_or m1.store.sandwich (base / 2 + 30 + j) false ≡ get_or (pairs w2) j false
    m1_digit j h = get_own false m.store.sandwich (base / 2 + 30) (pairs w2) j h

    still : HasCells f w2 m2
    still = record {
      size = sym result.size;
      word_count = result.kept.word_count ∙ a1.word_count ∙ store.words_are;
      digit_count = result.kept.digit_count ∙ a1.digit_count ∙ store.digits_are;
      words = λ j h. sym (m1_word j h) ∙ sym (result.kept.words (base + j) (record {
        from = omega arith;
        below = omega arith;
      }));
      digits = λ j h.
          let e : (base + (60 + 2 * j)) / 2 ≡ base / 2 + 30 + j = omega arith in
          let k = result.kept.digits (base + (60 + 2 * j)) (record { from = omega arith; below = omega arith }) in
          sym (m1_digit j h) ∙ sym (rw e at k);
    }

    pub turned : is_obeyed (step g).turn ≡ true → Turned base m
    turned h =
        let went : is_obeyed r1.turn ≡ true = ap is_obeyed same_turn ∙ h in
        let b = locations_most m.size in
        let next : within m.size (base + 40 + 1) ≡ base + 41 =
        (let e : base + 40 + 1 ≡ base + 41 = omega arith in ap (within m.size) e
        ∙ within_below m.size (base + 41) (omega arith)) in
        let opens = state-opened f even_base w2 m2 41 still (result.counter went ∙ next) in
        let w3 : Work = record w2 { high = high_of m2.acc; middle = middle_of m2.acc; low = low_of m2.acc } in
        let w4 : Work = record w3 { at0 = w0.at0 + 2 } in
        let o2 : Around = around m2 in
        let at_next : w0.at0 + 2 ≡ A_F + 2 * (c + 1) = rw at0_is (omega arith) in
        let runs = followed (Path-save f even_base o2 w2 m2.acc m2.last m2_acc)
        (Path-advance f even_base o2 w3 m2.last (rw at_next (omega (arith, c_fits)))) in
        let m3 : State = state f (moment base o2 w4 0 0 m2.last) (m2.orders + 16) in
        let middle : HasRun 1 m1 (codes_of r1.turn) (stops_of r1.turn) m2 = HasRun-one m1 m2 r1.turn at_m1 went in
        let end : HasRun 16 m2 [] 0 m3 = subst (λ s. HasRun 16 s [] 0 m3) opens
        (HasRun-along (Leads-path runs m2.orders)) in
        let whole_run = HasRun-joined reached (HasRun-joined middle end) in
        let codes : codes_of r1.turn ++ [] ≡ codes_of (step g).turn = append-nil (codes_of r1.turn)
        ∙ ap codes_of same_turn in
        let stops : 0 + (stops_of r1.turn + 0) ≡ stops_of (step g).turn = omega arith ∙ ap stops_of same_turn in
        let a3 : Alike base m3 (record m2 { acc = 0 }) =
        alike_around f w4 (record m2 { acc = 0 }) (sym result.size) still.word_count still.digit_count 0 in
        let same : (obey_word (kind_of_function n) x g).state ≡ (step g).state =
        ap (λ (y : Obeyed). y.state) (sym at_g) in
        let acc_is : (guest base m3).acc ≡ m2.acc =
        guest_acc f even_base o2 w4 ∙ whole-saved m2.acc in
        let counter_is : (guest base m3).counter ≡ c + 1 =
        guest_counter f even_base o2 w4 (c + 1) at_next c_fits in
        let other : (obey_word (kind_of_function n) x g).state.counter ≡ c + 1 = result.other_counter went
        ∙ within_below m.size (c + 1) ok.next in
        let q = result.alike in
        let three : IsSaved w4.high w4.middle w4.low = record {
          digits = m2.acc % 4;
          few = omega arith;
          low_is = refl;
          middle_fits = middle_fits m2.acc;
          high_fits = high_of_fits m2.acc m2_acc;
        } in
        record {
          after = m3;
          count = to.count + 17;
          exact = to.exact;
          most = omega (arith, to.most);
          ran = subst (λ l. HasRun (to.count + 17) m (n ∷ codes_of (step g).turn) l m3) stops
              (subst (λ cs. HasRun (to.count + 17) m (n ∷ cs) (0 + (stops_of r1.turn + 0)) m3) codes whole_run);
          stands = stands_again f even_base o2 w4 at_next c_fits stands.image three;
          agree = subst (Agree base (guest base m3)) same (record {
            size = a3.size ∙ q.size;
            words = λ a i. a3.words a i ∙ q.words a i;
            digits = λ a i. a3.digits a i ∙ q.digits a i;
            acc = acc_is ∙ q.acc;
            multiplier = a3.multiplier ∙ q.multiplier;
            counter = counter_is ∙ sym other;
            tape = a3.tape ∙ q.tape;
          });
          size = refl;
        }

  -- an order of the guest that changes its counter alone
  jump_end : {k : ℕ} (w : Work) (d : ℕ) → Path f k (moment base o w0 0 0 m.last) (n ∷ []) (moment base o w 0 0 (Some n))
      → (k ≡ turn_orders g) × (k ≤ 35) → (w.at0 ≡ A_F + 2 * d) × (d < 1024)
      → (w.high ≡ w0.high) × (w.middle ≡ w0.middle) × (w.low ≡ w0.low)
      → step g ≡ record { state = done_at d g; turn = Went } → Turned base m
  jump_end {k} w d runs exact next same is =
      let m3 : State = state f (moment base o w 0 0 (Some n)) (m.orders + k) in
      let a : Alike base m3 (record m { acc = 0 }) =
      alike_around f w (record m { acc = 0 }) refl store.words_are store.digits_are 0 in
      let there : HasRun k m (n ∷ []) 0 m3 = subst (λ s. HasRun k s (n ∷ []) 0 m3) begins
      (HasRun-along (Leads-path runs m.orders)) in
      let turn : (step g).turn ≡ Went = ap (λ (y : Obeyed). y.turn) is in
      let three : IsSaved w.high w.middle w.low = rw (same.0, same.1, same.2) saved_now in
      record {
        after = m3;
        count = k;
        exact = exact.0;
        most = exact.1;
        ran = subst (λ u. HasRun k m (n ∷ codes_of u) (stops_of u) m3) (sym turn) there;
        stands = stands_again f even_base o w next.0 next.1 stands.image three;
        agree = subst (Agree base (guest base m3)) (ap (λ (y : Obeyed). y.state) (sym is))
            (agree_with a (guest_acc f even_base o w ∙ rw (same.0, same.1, same.2) refl)
            (guest_counter f even_base o w d next.0 next.1));
        size = refl;
      }

  -- an E or G order as a word, without further digits
  plain_word : (j : ℕ) → n ≡ j → IsPlainJump base x m.size → x ≡ 4096 * j + 2 * address_of x
  plain_word j e p =
      let s = p.short in
      let d = p.plain in
      let a : x % 2 ≡ 0 = even_of x s in
      let b : x / 2048 % 2 ≡ 0 = even_of (x / 2048) d in
      omega arith
    where
      even_of : (y : ℕ) → nat_eq (y % 2) 1 ≡ false → y % 2 ≡ 0
      even_of y h = grind (arith, nat_tests)

  step_at : (k : Option Kind) → kind_of_function n ≡ k → step g ≡ obey_word k x g
  unfolding step
  step_at k e = ap (λ k. obey_word k x g) e

  acc_low : w0.high < 2 ^ 34 → g.acc < 2 ^ 70
  acc_low h = omega arith

  acc_high : 2 ^ 34 ≤ w0.high → 2 ^ 70 ≤ g.acc
  acc_high h = omega arith

  room_next : w0.at0 + 2 < 2 ^ 17
  room_next = rw at0_is (omega (arith, c_fits))

  at_next_is : w0.at0 + 2 ≡ A_F + 2 * (c + 1)
  at_next_is = rw at0_is (omega arith)

  next_is : within m.size (c + 1) ≡ c + 1
  next_is = within_below m.size (c + 1) ok.next

  place_is : IsPlainJump base x m.size → within m.size (address_of x) ≡ address_of x
  place_is p = within_below m.size (address_of x) p.below

  pub turned_E : n ≡ 3 → Turned base m
  turned_E e =
      let k : kind_of_function n ≡ Some E = ap kind_of_function e in
      let p : IsPlainJump base x m.size = subst (λ k. IsAllowedOrder k base x m.size) k ok.order in
      let s : step g ≡ obey_word (Some E) x g = step_at (Some E) k in
      let v = plain_word 3 e p in
      let q = place_is p in
      let r = next_is in
      let b = locations_most m.size in
      elim (cases_lt w0.high (2 ^ 34)) [
        | inl l ↦
            let t : nat_lt g.acc (2 ^ 70) ≡ true = lt-ltb g.acc (2 ^ 70) (acc_low l) in
            jump_end (record w1 { at0 = x + L_F; at58 = x + L_F; at59 = w0.high * 2 ^ 36 / 2 ^ 54 })
            (address_of x) (followed fetched (E_taken f even_base o w1 x (omega arith, omega arith) l))
            (sym (by_tests (eq-eqb n 3 e) refl refl refl refl ∙ rw t refl), lit≤ tt)
            (omega arith, omega (arith, p.below)) (refl, refl, refl)
            (s ∙ rw (t, q) refl)
        | inr h ↦
            let t : nat_lt g.acc (2 ^ 70) ≡ false = le-ltb g.acc (2 ^ 70) (acc_high h) in
            jump_end (record w1 { at0 = w0.at0 + 2; at58 = x + L_F; at59 = w0.high * 2 ^ 36 / 2 ^ 54 }) (c + 1)
            (followed fetched (E_passed f even_base o w1 x (omega arith, omega arith) (h, high_fits) room_next))
            (sym (by_tests (eq-eqb n 3 e) refl refl refl refl ∙ rw t refl), lit≤ tt)
            (at_next_is, c_fits) (refl, refl, refl)
            (s ∙ rw (t, r) refl)
      ]

  pub turned_G : n ≡ 27 → Turned base m
  turned_G e =
      let k : kind_of_function n ≡ Some G = ap kind_of_function e in
      let p : IsPlainJump base x m.size = subst (λ k. IsAllowedOrder k base x m.size) k ok.order in
      let s : step g ≡ obey_word (Some G) x g = step_at (Some G) k in
      let v = plain_word 27 e p in
      let q = place_is p in
      let r = next_is in
      let b = locations_most m.size in
      elim (cases_lt w0.high (2 ^ 34)) [
        | inl l ↦
            let t : nat_le (2 ^ 70) g.acc ≡ false = lt-leb (2 ^ 70) g.acc (acc_low l) in
            let u : nat_lt g.acc (2 ^ 70) ≡ true = lt-ltb g.acc (2 ^ 70) (acc_low l) in
            jump_end (record w1 { at0 = w0.at0 + 2; at58 = x + 4096; at59 = w0.high * 2 ^ 36 / 2 ^ 54 }) (c + 1)
            (followed fetched (G_passed f even_base o w1 x (omega arith, omega arith) l room_next))
            (sym (by_tests (ap (λ y. nat_eq y 3) e) (eq-eqb n 27 e) refl refl refl ∙ rw u refl), lit≤ tt)
            (at_next_is, c_fits) (refl, refl, refl)
            (s ∙ rw (t, r) refl)
        | inr h ↦
            let t : nat_le (2 ^ 70) g.acc ≡ true = le-leb (2 ^ 70) g.acc (acc_high h) in
            let u : nat_lt g.acc (2 ^ 70) ≡ false = le-ltb g.acc (2 ^ 70) (acc_high h) in
            jump_end (record w1 { at0 = x + 4096; at58 = x + 4096; at59 = w0.high * 2 ^ 36 / 2 ^ 54 }) (address_of x)
            (followed fetched (G_taken f even_base o w1 x (omega arith, omega arith) (h, high_fits)))
            (sym (by_tests (ap (λ y. nat_eq y 3) e) (eq-eqb n 27 e) refl refl refl ∙ rw u refl), lit≤ tt)
            (omega arith, omega (arith, p.below)) (refl, refl, refl)
            (s ∙ rw (t, q) refl)
      ]

  -- the guest obeys its order
  pub step-turn : is_obeyed (step g).turn ≡ true → Turned base m
  step-turn h = by_function n turned_E turned_G (λ no3 no27. turned no3 no27 h)

  -- or it is a stop, or it cannot obey it
  pub turn_reaches : ((step g).turn ≡ Went → ⊥) → Reached base m
  turn_reaches h =
      by_function n
      (λ e. absurd (h (jumps (Some E) (ap kind_of_function e) ∙ jump_goes (nat_lt g.acc (2 ^ 70)) _)))
      (λ e. absurd (h (jumps (Some G) (ap kind_of_function e) ∙ jump_goes (nat_le (2 ^ 70) g.acc) _))) reaches
    where
      jumps : (k : Option Kind) → kind_of_function n ≡ k → (step g).turn ≡ (obey_word k x g).turn
      jumps k e = ap (λ (y : Obeyed). y.turn) (step_at k e)

      jump_goes : (b : Bool) (p : ℕ) → (jump_order b p g).turn ≡ Went
      jump_goes true p = refl
      jump_goes false p = refl
