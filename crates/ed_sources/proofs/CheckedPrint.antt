-- The source of `call check N`: at its entry the checking routine is at the start of a turn, and its guest prints the
-- number and stops.
use Rattle.ed_sources.proofs.Kit.{Z_F, Size, Leads-append, no_stops, nat_eq, ◌||◌, list_all, image_word}
use Rattle.ed_sources.proofs.Kit.{parameter_store, unwrap_or, eqb-true, locations_least, placed_at, before_units}
use Rattle.ed_sources.proofs.Kit.{IsCalled, [], ap, arith, Bool, get_or, inl, length, lit<, lit≤, refl, rules, subst}
use Rattle.ed_sources.proofs.Kit.{suc, sym, true, ℕ, ◌*◌, ◌++◌, ◌+◌, ◌<◌, ◌^◌, ◌∙◌, ◌∷◌, ◌≡◌, ◌≤◌, short_at, State}
use Rattle.ed_sources.proofs.Kit.{state_after, AreObeyed-leads, Leads, print, with_h, digits, print_orders, sum}
use Rattle.ed_sources.proofs.Kit.{ChecksToStop, size_after, function_of, next_word, guest, entry_state, call_text}
use Rattle.ed_sources.proofs.Kit.{read_is_accepted, Check, locations, tens, false, zero, ◌%◌, ◌/◌}
use Rattle.ed_checker.proofs.Kit.{address_of, long_at, checked_orders, IsAllowed, orders_by, turn_orders}
use Rattle.ed_machine.specs.Sound.{IsSound}
use Rattle.ed_machine.proofs.Steps.{each_sum}
use Rattle.ed_library.specs.Routines.{is_working}
use Rattle.ed_routines.proofs.Print.{print_weight, before_tens, shown_weight, shows_is, sum_is}
use Rattle.ed_routines.proofs.Walks.{total, total_sum}
use Rattle.ed_checker.specs.Checker.{HasImage, check}
use Rattle.ed_checker.specs.Laws.{HasGuest, IsFollowed, StopsAfter}
use Rattle.ed_checker.proofs.Follow.{checker_law}
use Rattle.ed_checker.proofs.Guests.{allowed_below}
use Rattle.ed_checker.proofs.Weights.{checked_total, turn_weighs, turn_weights}
use Rattle.ed_sources.proofs.Along.{IsAt, IsBefore-placed, HasRoutine-placed, HasCall, IsOutside-below}
use Rattle.ed_sources.proofs.AtEntry.{all_words, placed, word_at, sound_entry}
use Rattle.ed_sources.proofs.CalledRoutines.{stop_at}
use Rattle.ed_sources.proofs.Calling.{IsBefore, called, caller_is, Leads-calls, IsLoadedAt-stands, IsOutside-called}
use Rattle.ed_sources.proofs.Calling.{call_keeps, call_weighs}
use Rattle.ed_sources.proofs.Decimals.{list_all-numbers, numbers}
use Rattle.ed_sources.proofs.Said.{check_lines}
use Rattle.ed_routines.proofs.PrintCall as print_call
use Rattle.ed_sources.proofs.CallsAccepted.{check_read, fault-none}
use Rattle.ed_orders.specs.declared.kind.Kind.{Kind}
use Rattle.ed_machine.proofs.Kit.Orders.{IsOrder}
use Rattle.ed_machine.proofs.Kit.Zeros.{begun, shown}

-- ---- the weights of the orders of `print`

shown_is : (b : Bool) (q : ℕ) → shown_weight turn_weights b q ≡ 156 + 142 * length (shown b q)
shown_is false zero = refl
shown_is false (suc q) = refl
shown_is true q = refl

print_weight_is : (n : ℕ) → print_weight turn_weights n
    ≡ 2481 + 244 * sum (before_units n) + 142 * length (before_units n)
print_weight_is n =
    let b1 : Bool = begun false (n / 10000) in
    let b2 : Bool = begun b1 (n / 1000 % 10) in
    let first = shown_is false (n / 10000) in
    let second = shown_is b1 (n / 1000 % 10) in
    let third = shown_is b2 (n / 100 % 10) in
    let fourth = shown_is (before_tens n) (n / 10 % 10) in
    let all = sum_is (tens n) in
    let many = shows_is (tens n) in
    omega (arith, first, second, third, fourth, all, many)

module _ (z : Size) (n : ℕ) (small : n < 65536) where
  -- the machine at the entry, and the guest
  abbrev pub m : State
  m = entry_state z (check_lines n)

  abbrev pub g : State
  g = guest 112 m

  word : (a : ℕ) → 44 ≤ a → a < 1024 → short_at m.store a ≡ unwrap_or (placed_at (placed (check_lines n)) a) 0
  word = word_at z (check_lines n) refl

  sound : IsSound m
  sound =
      sound_entry z (call_text (Check n)) (check_lines n)
      (read_is_accepted z (call_text (Check n)) (check_lines n) (check_read n small)
      (fault-none z (check_lines n) refl refl))

  -- ---- the routine at its base

  abbrev is_there : ℕ → Bool
  is_there i =
      is_working check i || nat_eq (unwrap_or (placed_at (placed (check_lines n)) (112 + i)) 0)
      (image_word check i 112 (with_h 0))

  all_there : list_all is_there (numbers 0 66) ≡ true
  unfolding parameter_store
  all_there = refl

  has_words : HasImage 112 m
  has_words i l = record {
    has = λ working.
        let there : is_there i ≡ true = list_all-numbers is_there 0 66 i all_there (omega arith) (omega arith) in
        word (112 + i) (omega arith) (omega arith)
        ∙ eqb-true (unwrap_or (placed_at (placed (check_lines n)) (112 + i)) 0) (image_word check i 112 (with_h 0))
        (rw working at there);
  }

  fetch : short_at m.store 112 ≡ 114800
  unfolding parameter_store
  fetch = word 112 (lit≤ tt) (lit< tt)

  -- the long words of the guest's accumulator are 0
  clear : (long_at m.store 172 ≡ 0) × (long_at m.store 174 ≡ 0) × (long_at m.store 176 ≡ 0)
  clear = (
    rw (word 172 (lit≤ tt) (lit< tt), word 173 (lit≤ tt) (lit< tt)) refl,
    rw (word 174 (lit≤ tt) (lit< tt), word 175 (lit≤ tt) (lit< tt)) refl,
    rw (word 176 (lit≤ tt) (lit< tt), word 177 (lit≤ tt) (lit< tt)) refl,
  )

  has_guest : HasGuest 112 m
  has_guest =
      let size = locations_least z in
      record {
        even = refl;
        room = omega arith;
        sound = sound;
        stands = record {
          counter = refl;
          acc = refl;
          image = has_words;
          fetch = rw fetch refl;
          middle = subst (λ x. x < 2 ^ 34) (sym clear.1) (lit< tt);
          low = rw clear.2 refl;
          low_few = subst (λ x. x < 2 ^ 34) (sym clear.2) (lit< tt);
        };
      }

  -- ---- the guest prints the number

  counter_is : g.counter ≡ 56
  counter_is = ap address_of fetch

  acc_is : g.acc ≡ 0
  acc_is = rw (clear.0, clear.1, clear.2) refl

  at : IsAt z (check_lines n) g 59 60 56
  at = search (rules, counter_is, acc_is, all_words)

  its_call : HasCall (check_lines n) print 60 (with_h 59) 59 60 56
  unfolding parameter_store
  its_call = search rules

  before_print : IsBefore g 56 60
  before_print = IsBefore-placed at its_call

  abbrev t : State
  t = called g 56 60

  number_is : short_at t.store 59 ≡ n
  number_is = word 59 (lit≤ tt) (lit< tt)

  low : short_at t.store 59 < 65536
  low = rw number_is small

  abbrev count : ℕ
  count = print_orders (short_at t.store 59)

  printing : IsCalled print (with_h 59) 60 59 112 t
  printing =
      let size = locations_least z in
      record {
        all = all_words z (check_lines n);
        stands = IsLoadedAt-stands before_print (HasRoutine-placed at its_call);
        outside = IsOutside-called before_print (IsOutside-below at its_call (lit< tt));
        within = record {
          under = lit≤ tt;
          near = lit< tt;
          back = let e = caller_is before_print in omega arith;
          fits = omega arith;
        };
      }

  abbrev end : State
  end = print_call.last printing low

  leads : Leads (2 + count) g ([] ++ (11 ∷ digits (short_at t.store 59))) end
  leads = Leads-append (Leads-calls before_print) (print_call.leads_to printing low)

  end_counter : end.counter ≡ 58
  end_counter = ap (λ x. x + 2) (caller_is before_print)

  end_word : next_word end ≡ Z_F
  end_word =
      ap (λ x. get_or end.store.words x 0) end_counter
      ∙ (print_call.keeps printing low end refl).words 58 (record { other = inl (lit< tt) })
      ∙ word 58 (lit≤ tt) (lit< tt)

  -- ---- each of its orders is allowed

  -- an order that stays below the routine is allowed
  plain : (kind : Kind) (x : State) → IsOrder 112 kind x → x.size ≡ z → IsAllowed 112 x
  plain kind x o same = let size = locations_least z in allowed_below 112 refl kind x o (rw same (omega arith))

  third : state_after 2 g ≡ t
  third = (Leads-calls before_print).state_is

  fits : 112 ≤ locations z
  fits = let size = locations_least z in omega arith

  each : (j : ℕ) → j < 2 + count → IsAllowed 112 (state_after j g)
  each = each_sum (IsAllowed 112) 2 count g
      (λ j l. call_keeps before_print 112 (lit≤ tt) (lit< tt) fits (λ x. x.size ≡ z → IsAllowed 112 x) plain j l
      (size_after j g))
      (λ j l. subst (λ x. IsAllowed 112 (state_after j x)) (sym third)
      (print_call.keeps_below printing low (λ x. x.size ≡ z → IsAllowed 112 x) plain j l (size_after j t)))

  followed : IsFollowed 112 (2 + count) g
  followed = record { allowed = each; obeyed = AreObeyed-leads leads }

  end_allowed : IsAllowed 112 end
  end_allowed = search (rules, locations_least, IsOutside-called, end_counter, end_word)

  at_end : state_after (2 + count) g ≡ end
  at_end = leads.state_is

  to_stop : StopsAfter (2 + count) g
  to_stop = search (rules, AreObeyed-leads, leads, no_stops, at_end, stop_at, end_word)

  -- the guest reaches its first Z
  pub guest_stops : StopsAfter (2 + print_orders n) g
  guest_stops = subst (λ x. StopsAfter (2 + print_orders x) g) number_is to_stop

  checks : ChecksToStop 112 (suc (2 + count)) m
  checks =
      checker_law.to_stop 112 (2 + count) m has_guest followed to_stop (subst (IsAllowed 112) (sym at_end) end_allowed)

  -- ---- the orders of its turns

  last_turn : turn_orders (state_after (2 + count) g) ≡ 35
  last_turn = ap turn_orders at_end ∙ ap (λ w. orders_by (function_of w) end.acc) end_word

  two_turns : total turn_orders 2 g ≡ 51
  two_turns =
      call_weighs before_print 112 (lit≤ tt) (lit< tt) fits turn_weights turn_orders
      (λ kind x o. turn_weighs kind x o.kind_is)

  print_turns : total turn_orders count t ≡ print_weight turn_weights (short_at t.store 59)
  print_turns = print_call.weighs printing low turn_weights turn_orders (λ kind x o. turn_weighs kind x o.kind_is)

  turns_before : total turn_orders (2 + count) g ≡ 51 + print_weight turn_weights (short_at t.store 59)
  turns_before = total_sum turn_orders 2 count g ∙ (λ i. two_turns i + total turn_orders count (third i))
      ∙ ap (λ x. 51 + x) print_turns

  all_turns : checked_orders g (suc (2 + count)) ≡ 86 + print_weight turn_weights (short_at t.store 59)
  unfolding total
  all_turns =
      let before = turns_before in
      let last = last_turn in
      checked_total g (suc (2 + count)) ∙ omega (arith, before, last)

  -- the guest's orders up to its first Z, which is the last of them, and as many orders of the machine as the formula
  -- has lead to it
  pub checks_print : ChecksToStop 112 (3 + print_orders n) m
  checks_print =
      let e : suc (2 + count) ≡ 3 + print_orders n = ap (λ x. suc (2 + print_orders x)) number_is ∙ omega arith in
      subst (λ q. ChecksToStop 112 q m) e checks

  pub count_is : checks_print.count ≡ 2550 + 244 * sum (before_units n) + 142 * length (before_units n)
  count_is =
      let exact = checks_print.exact in
      let e : 3 + print_orders n ≡ suc (2 + count) = omega arith ∙ ap (λ x. suc (2 + print_orders x)) (sym number_is) in
      let turns : checked_orders (guest 112 m) (3 + print_orders n) ≡ 86 + print_weight turn_weights n =
      ap (checked_orders g) e ∙ all_turns ∙ ap (λ x. 86 + print_weight turn_weights x) number_is in
      let weight = print_weight_is n in
      omega (arith, exact, turns, weight)
