-- The routine obeys the guest order by order.
use Rattle.ed_checker.proofs.Kit.{Kind, E, G, Stopped, [], ap, arith, Bool, false, lit<, nat_le, nat_lt, Option, refl}
use Rattle.ed_checker.proofs.Kit.{rules, Some, subst, suc, sym, true, true≢false, zero, ℕ, ◌%◌, ◌++◌, ◌+◌, ◌^◌, ◌∙◌}
use Rattle.ed_checker.proofs.Kit.{◌∷◌, ◌≡◌, within, function_of, IsStore, kind_of_function, address_of, after}
use Rattle.ed_checker.proofs.Kit.{next_word, done_at, jump_order, obey_word, Obeyed, place_of, step, State, codes_of}
use Rattle.ed_checker.proofs.Kit.{is_obeyed, progress, Progress, state_after, stops_of, short_at, Agree, checked_orders}
use Rattle.ed_checker.proofs.Kit.{guest, IsAllowed, orders_by, turn_orders, HasRun}
use Rattle.ed_machine.specs.Sound.{IsSound}
use Rattle.ed_machine.proofs.SoundSteps.{sound_after}
use Rattle.ed_checker.specs.Checker.{checked_codes}
use Rattle.ed_checker.specs.Laws.{CheckerLaw, HasChecked, ChecksToBlock, ChecksToStop, HasGuest, IsFollowed}
use Rattle.ed_checker.proofs.Alike.{Alike, Outcome, agree_with, is_planted, Outcome-planted}
use Rattle.ed_checker.proofs.HasRun.{HasRun-joined, HasRun-none, HasRun-renamed}
use Rattle.ed_checker.proofs.Turns.{by_function, step-turn, turn_reaches, other_planted}

agree_self : (base : ℕ) (s : State) → Agree base s s
agree_self base s = search rules

agree_trans : {base : ℕ} {s t u : State} → Agree base s t → Agree base t u → Agree base s u
agree_trans p q = record {
  size = p.size ∙ q.size;
  words = λ a out. p.words a out ∙ q.words a out;
  digits = λ a out. p.digits a out ∙ q.digits a out;
  acc = p.acc ∙ q.acc;
  multiplier = p.multiplier ∙ q.multiplier;
  counter = p.counter ∙ q.counter;
  tape = p.tape ∙ q.tape;
}

-- two guests that agree, if the second is allowed its next order
module _ {base : ℕ} (even_base : base % 2 ≡ 0) {s t : State} (p : Agree base s t) (ok : IsAllowed base t) where
  same_word : next_word s ≡ next_word t
  same_word = ap (short_at s.store) p.counter ∙ p.words t.counter ok.outside

  pub allowed : IsAllowed base s
  allowed = search rules

  -- the order that both obey
  abbrev x : ℕ
  x = next_word s

  at_s : (k : Option Kind) → kind_of_function (function_of x) ≡ k → step s ≡ obey_word k x s
  unfolding step
  at_s k e = ap (λ k. obey_word k x s) e

  at_t : (k : Option Kind) → kind_of_function (function_of x) ≡ k → step t ≡ obey_word k x t
  unfolding step
  at_t k e = ap (λ w. obey_word (kind_of_function (function_of w)) w t) (sym same_word) ∙ ap (λ k. obey_word k x t) e

  pub record Both (a b : Obeyed) : Type 0 where
    pub turn : a.turn ≡ b.turn
    pub agree : Agree base a.state b.state

  agree_after : {m n : ℕ} → m ≡ n → Agree base (done_at m s) (done_at n t)
  agree_after e = record {
    size = p.size;
    words = p.words;
    digits = p.digits;
    acc = p.acc;
    multiplier = p.multiplier;
    counter = e;
    tape = p.tape;
  }

  both_jump : (b : Bool) → Both (jump_order b (place_of s x) s) (jump_order b (place_of t x) t)
  both_jump true = record { turn = refl; agree = agree_after (λ i. within (p.size i) (address_of x)) }
  both_jump false = record { turn = refl; agree = agree_after (λ i. within (p.size i) (p.counter i + 1)) }

  both_E : Both (obey_word (Some E) x s) (obey_word (Some E) x t)
  both_E = subst (λ a. Both (obey_word (Some E) x s) (jump_order (nat_lt a (2 ^ 70)) (place_of t x) t)) p.acc
      (both_jump (nat_lt s.acc (2 ^ 70)))

  both_G : Both (obey_word (Some G) x s) (obey_word (Some G) x t)
  both_G = subst (λ a. Both (obey_word (Some G) x s) (jump_order (nat_le (2 ^ 70) a) (place_of t x) t)) p.acc
      (both_jump (nat_le (2 ^ 70) s.acc))

  module _ (a : IsStore s.store) (b : IsStore t.store) where
    alike : Alike base s t
    alike = record {
      size = p.size;
      words = p.words;
      digits = p.digits;
      word_count = a.words_are ∙ sym b.words_are;
      digit_count = a.digits_are ∙ sym b.digits_are;
      acc = p.acc;
      multiplier = p.multiplier;
      tape = p.tape;
    }

    abbrev kind : Option Kind
    kind = kind_of_function (function_of x)

    -- what a planted order does to both
    both_outcome : is_planted kind ≡ true → Outcome base s t (obey_word kind x s) (obey_word kind x t)
    both_outcome may = Outcome-planted even_base alike kind x may allowed.order

    both_planted : is_planted kind ≡ true → is_obeyed (step t).turn ≡ true
        → Both (obey_word kind x s) (obey_word kind x t)
    both_planted may h =
        let o = both_outcome may in
        let went = ap is_obeyed (o.turn
        ∙ ap (λ (y : Obeyed). y.turn) (sym (at_t kind refl))) ∙ h in
        let next : after s ≡ after t = λ i. within (p.size i) (p.counter i + 1) in
        record {
          turn = o.turn;
          agree = agree_with o.alike o.alike.acc (o.counter went ∙ next ∙ sym (o.other_counter went));
        }

    by_step : (k : Option Kind) → kind_of_function (function_of x) ≡ k → Both (obey_word k x s) (obey_word k x t)
        → Both (step s) (step t)
    by_step k e h = subst (λ y. Both y (step t)) (sym (at_s k e)) (subst (Both (obey_word k x s)) (sym (at_t k e)) h)

    turn_by : (k : Option Kind) → kind_of_function (function_of x) ≡ k → (obey_word k x s).turn ≡ (obey_word k x t).turn
        → (step s).turn ≡ (step t).turn
    turn_by k e h = ap (λ (y : Obeyed). y.turn) (at_s k e) ∙ h ∙ ap (λ (y : Obeyed). y.turn) (sym (at_t k e))

    -- both turns are the same, whether the order is obeyed or not
    pub same_turn : (step s).turn ≡ (step t).turn
    same_turn =
        by_function (function_of x) (λ e. turn_by (Some E) (ap kind_of_function e) both_E.turn)
        (λ e. turn_by (Some G) (ap kind_of_function e) both_G.turn)
        (λ no3 no27. turn_by kind refl (both_outcome (other_planted (function_of x) no3 no27)).turn)

    pub steps : is_obeyed (step t).turn ≡ true → Both (step s) (step t)
    steps h =
        by_function (function_of x) (λ e. by_step (Some E) (ap kind_of_function e) both_E)
        (λ e. by_step (Some G) (ap kind_of_function e) both_G)
        (λ no3 no27. by_step kind refl (both_planted (other_planted (function_of x) no3 no27) h))

-- ---- the guest of a machine that has the routine

guest_sound : (base : ℕ) (m : State) → HasGuest base m → IsAllowed base (guest base m) → IsSound (guest base m)
guest_sound base m h ok = record {
  store = h.sound.store;
  acc = search rules;
  multiplier = h.sound.multiplier;
  counter = omega (arith, ok.next);
  tape = h.sound.tape;
  last = lit< tt;
}

at_first : (base : ℕ) (g : State) → IsAllowed base (state_after 0 g) → IsAllowed base g
unfolding progress
at_first base g ok = ok

module _ (base : ℕ) (m : State) (has : HasGuest base m) where
  abbrev g : State
  g = guest base m

  -- the machine within its bounds once some orders are checked, and the guest
  after_sound : (q : ℕ) (c : HasChecked base q m) → IsSound c.last
  after_sound q c = subst IsSound (ap (λ (y : Progress). y.state) c.ran.is)
      (sound_after (checked_orders g q) m has.sound)

  -- the turn of a guest that agrees takes as many orders
  same_orders : (s t : State) → next_word s ≡ next_word t → s.acc ≡ t.acc → turn_orders s ≡ turn_orders t
  same_orders s t word acc = λ i. orders_by (function_of (word i)) (acc i)

  next : (q : ℕ) → HasChecked base q m → IsAllowed base g → IsAllowed base (state_after q g)
      → is_obeyed (step (state_after q g)).turn ≡ true → HasChecked base (suc q) m
  unfolding progress checked_codes checked_orders
  next q c first ok obeyed =
      let gq = state_after q g in
      let a = c.last in
      let a_sound : IsSound a = after_sound q c in
      let g_sound : IsSound gq = sound_after q g (guest_sound base m has first) in
      let b = steps has.even c.agree ok a_sound.store g_sound.store obeyed in
      let word : next_word (guest base a) ≡ next_word gq = same_word has.even c.agree ok in
      let t = step-turn base has.even a a_sound.store (rw c.size has.room) c.stands
      (allowed has.even c.agree ok)
      (ap is_obeyed b.turn ∙ obeyed) in
      let codes : function_of (next_word (guest base a)) ∷ codes_of (step (guest base a)).turn
      ≡ function_of (next_word gq) ∷ codes_of (step gq).turn
      = (λ i. function_of (word i) ∷ codes_of (b.turn i)) in
      let orders : t.count ≡ turn_orders gq = t.exact ∙ same_orders (guest base a) gq word c.agree.acc in
      let r = HasRun-renamed (HasRun-joined c.ran t.ran) (ap (λ cs. checked_codes g q ++ cs) codes)
      (ap (λ n. (progress q g).stops + n) (ap stops_of b.turn)) in
      record {
        last = t.after;
        most = omega (arith, c.most, t.most, orders);
        ran = subst (λ k. HasRun (checked_orders g q + k) m (checked_codes g (suc q))
            (progress (suc q) g).stops t.after)
            orders r;
        stands = t.stands;
        agree = agree_trans t.agree b.agree;
        size = t.size ∙ c.size;
      }

  checks_from : (q : ℕ) → IsFollowed base q g → HasChecked base q m
  unfolding progress checked_codes checked_orders
  checks_from zero h = record {
    last = m;
    most = omega arith;
    ran = HasRun-none m;
    stands = has.stands;
    agree = agree_self base g;
    size = refl;
  }
  checks_from (suc q) h =
      next q (checks_from q (record {
        allowed = λ j l. h.allowed j (omega arith);
        obeyed = λ j l. h.obeyed j (omega arith);
      }))
      (at_first base g (h.allowed 0 (omega arith))) (h.allowed q (omega arith)) (h.obeyed q (omega arith))

  first_allowed : (q : ℕ) → IsFollowed base q g → IsAllowed base (state_after q g) → IsAllowed base g
  first_allowed zero h ok = at_first base g ok
  first_allowed (suc q) h ok = at_first base g (h.allowed 0 (omega arith))

  -- the guest's orders up to a stop
  stops_from : (q : ℕ) → IsFollowed base q g → (progress q g).stops ≡ 0 → IsAllowed base (state_after q g)
      → (step (state_after q g)).turn ≡ Stopped → ChecksToStop base (suc q) m
  unfolding checked_codes checked_orders
  stops_from q h no_stop ok stop =
      let gq = state_after q g in
      let c = checks_from q h in
      let a = c.last in
      let a_sound : IsSound a = after_sound q c in
      let g_sound : IsSound gq = sound_after q g (guest_sound base m has (first_allowed q h ok)) in
      let b = steps has.even c.agree ok a_sound.store g_sound.store (ap is_obeyed stop) in
      let word : next_word (guest base a) ≡ next_word gq = same_word has.even c.agree ok in
      let t = turn_reaches base has.even a a_sound.store (rw c.size has.room) c.stands (allowed has.even c.agree ok)
      (λ went. absurd (omega (arith, ap stops_of (sym went ∙ b.turn ∙ stop)))) in
      let orders : t.count + 17 ≡ turn_orders gq = t.exact ∙ same_orders (guest base a) gq word c.agree.acc in
      record {
        last = t.after;
        count = checked_orders g q + t.count;
        exact = omega (arith, orders);
        most = omega (arith, c.most, t.most);
        ran = HasRun-renamed (HasRun-joined c.ran t.ran)
            (λ i. checked_codes g q ++ (function_of (word i) ∷ codes_of (sym stop i))) (omega (arith, no_stop));
        counter = t.counter;
        stops = t.turn ∙ b.turn ∙ stop;
      }

  -- and up to one that can't be obeyed
  blocked_from : (q : ℕ) → IsFollowed base q g → IsAllowed base (state_after q g)
      → is_obeyed (step (state_after q g)).turn ≡ false → ChecksToBlock base q m
  unfolding checked_orders
  blocked_from q h ok stuck =
      let gq = state_after q g in
      let c = checks_from q h in
      let a = c.last in
      let a_sound : IsSound a = after_sound q c in
      let g_sound : IsSound gq = sound_after q g (guest_sound base m has (first_allowed q h ok)) in
      let turn_is = same_turn has.even c.agree ok a_sound.store g_sound.store in
      let word : next_word (guest base a) ≡ next_word gq = same_word has.even c.agree ok in
      let t = turn_reaches base has.even a a_sound.store (rw c.size has.room) c.stands (allowed has.even c.agree ok)
      (λ went. true≢false (ap is_obeyed (sym went ∙ turn_is) ∙ stuck)) in
      let orders : t.count + 17 ≡ turn_orders gq = t.exact ∙ same_orders (guest base a) gq word c.agree.acc in
      record {
        last = t.after;
        count = checked_orders g q + t.count;
        exact = omega (arith, orders);
        ran = HasRun-renamed (HasRun-joined c.ran t.ran) (λ i. checked_codes g q ++
            (function_of (word i) ∷ [])) (omega arith);
        agree = agree_trans t.agree c.agree;
        counter = t.counter;
        blocked = t.turn ∙ turn_is;
      }

pub checker_law : CheckerLaw
checker_law = record {
  checks = λ base q m has h. checks_from base m has q h;
  to_stop = λ base q m has h first ok. stops_from base m has q h first.no_stops ok first.stops;
  to_block = λ base q m has h ok stuck. blocked_from base m has q h ok stuck;
}
