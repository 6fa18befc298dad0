-- The letters of a trace are the orders of its run, and its Zs are the stops.
use Rattle.ed_laws.proofs.Kit.{filter-append, none-some, Kind, Ending, Limit, Stopped, Turn, counted_after, next_stops}
use Rattle.ed_laws.proofs.Kit.{past_next, length-append, byte_of, [], ap, arith, Bool, false, if◌then◌else◌, length}
use Rattle.ed_laws.proofs.Kit.{map, nat_eq, nat_le, nat_lt, None, Option, refl, rules, Some, suc, sym, true, ℕ, ◌++◌}
use Rattle.ed_laws.proofs.Kit.{◌+◌, ◌<◌, ◌∙◌, ◌∷◌, ◌≡◌, ◌≤◌, nat_tests, Text, step, State, progress, state_after}
use Rattle.ed_laws.proofs.Kit.{end_by, run_end, run_orders, RunEnd, ran_ends, first_state, paper_room, status_of, not}
use Rattle.ed_laws.proofs.Kit.{◌==◌, AreObeyed, is_obeyed, functions_after, trace_to, zero, same_Some, stops_of}
use Rattle.ed_laws.proofs.Kit.{function_of, kind_of_function, next_word, obey_word, letters_in, cases_lt, inl, inr}
use Rattle.ed_laws.proofs.Kit.{end_at}
use Rattle.std.proofs.lemmas.Bool.{lt-ltb}
use Rattle.std.specs.List.{filter}
use Rattle.ed_words.specs.Words.{digit as one_if}
use Rattle.ed_orders.specs.declared.kind.Kind.TheVariants.{Z}
use Rattle.ed_machine.specs.OrderTable.{stop_order}
use Rattle.ed_laws.specs.TraceAccounts.{EachTraceAccounts, IsPastStop}
use Rattle.ed_laws.proofs.LetterTests.{letter_says}
use Rattle.ed_laws.proofs.MoveEndings.{not_stopped_by}
use Rattle.ed_laws.proofs.Stepped.{bare_trace, letters_both, map_both, none_done}

-- ---- an order is a stop if its function is that of Z

-- what is said of an order of a kind, or of none
abbrev IsStopOf : Option Kind → Turn → Type 0
IsStopOf (Some Z) turn = stops_of turn ≡ 1
IsStopOf kind turn = stops_of turn ≡ 0

module _ (w : ℕ) (s : State) where
  stops_by_kind : (k : Option Kind) → IsStopOf k (obey_word k w s).turn
  stops_by_kind k = search rules

stop_turn : (s : State) → IsStopOf (kind_of_function (function_of (next_word s))) (step s).turn
unfolding step
stop_turn s = stops_by_kind (next_word s) s (kind_of_function (function_of (next_word s)))

-- ---- letters

abbrev is_stop_kind : Option Kind → Bool
is_stop_kind (Some Z) = true
is_stop_kind kind = false

stops_by : (k : Option Kind) (turn : Turn) → IsStopOf k turn → stops_of turn ≡ one_if (is_stop_kind k)
stops_by k turn h = search rules

-- the letter of a function is Z if it is that of Z, and never a line feed
letter_of : (f : ℕ)
    → (is_stop_kind (kind_of_function f) ≡ (byte_of f false == 90)) × (not (byte_of f false == 10) ≡ true)
letter_of f = (
  letter_says is_stop_kind (λ byte. byte == 90) refl refl f,
  sym (letter_says (λ kind. true) (λ byte. not (byte == 10)) refl refl f),
)

-- the letter of an order is Z if it stops
letter_stops : (s : State) → stops_of (step s).turn ≡ one_if (byte_of (function_of (next_word s)) false == 90)
letter_stops s =
    let f = function_of (next_word s) in
    stops_by (kind_of_function f) (step s).turn (stop_turn s) ∙ ap one_if (letter_of f).0

-- ---- the letters of many orders

-- how often the letter Z (90) is among letters
abbrev pub stops_in : Text → ℕ
stops_in letters = length (filter (λ byte. byte == 90) letters)

zeds_both : (xs ys : Text) → stops_in (xs ++ ys) ≡ stops_in xs + stops_in ys
zeds_both xs ys = search (rules, filter-append, length-append, filter)

one_kept : (byte : ℕ) → not (byte == 10) ≡ true → letters_in (byte ∷ []) ≡ byte ∷ []
one_kept byte h = rw h refl

one_zed : (byte : ℕ) → stops_in (byte ∷ []) ≡ one_if (byte == 90)
one_zed byte = search rules

-- the letter of the next order
abbrev pub next_letter : State → ℕ
next_letter s = byte_of (function_of (next_word s)) false

-- the trace of one order more has its letter more
pub more_letters : (k : ℕ) (s : State)
    → letters_in (trace_to (suc k) s) ≡ letters_in (trace_to k s) ++ next_letter (state_after k s) ∷ []
unfolding functions_after
more_letters k s =
    let f = function_of (next_word (state_after k s)) in
    bare_trace (functions_after (suc k) s)
    ∙ ap letters_in (map_both (functions_after k s) (f ∷ []))
    ∙ letters_both (map (λ g. byte_of g false) (functions_after k s)) (byte_of f false ∷ [])
    ∙ (λ i. sym (bare_trace (functions_after k s)) i ++ one_kept (byte_of f false) (letter_of f).1 i)

none_yet : (s : State) → letters_in (trace_to 0 s) ≡ []
unfolding functions_after
none_yet s = refl

-- there are as many as orders
pub letters_count : (k : ℕ) (s : State) → length (letters_in (trace_to k s)) ≡ k
letters_count zero s = ap length (none_yet s)
letters_count (suc k) s = search (rules, more_letters, length-append, letters_count k s)

-- and as many Zs as stops
pub zeds_count : (k : ℕ) (s : State) → stops_in (letters_in (trace_to k s)) ≡ (progress k s).stops
unfolding progress
zeds_count zero s = ap stops_in (none_yet s)
zeds_count (suc k) s =
    ap stops_in (more_letters k s)
    ∙ zeds_both (letters_in (trace_to k s)) (next_letter (state_after k s) ∷ [])
    ∙ (λ i. zeds_count k s i + (one_zed (next_letter (state_after k s)) ∙ sym (letter_stops (state_after k s))) i)

-- ---- a run that ends at a stop

none_at_first : (s : State) → (progress 0 s).stops ≡ 0
unfolding progress
none_at_first s = refl

module _ (limit resumes room : ℕ) (s : State) where
  abbrev k : ℕ
  k = run_orders limit resumes room s

  abbrev ran : RunEnd
  ran = run_end limit resumes room s

  -- then there are more stops than resumes
  more_stops : ran.ending ≡ Stopped → resumes < (progress k s).stops
  more_stops is = by_tests (nat_lt resumes (progress k s).stops) (nat_eq k limit) refl
      ((ran_ends limit resumes room s).now ∙ ap Some is)
    where
      by_tests : (b c : Bool) → nat_lt resumes (progress k s).stops ≡ b
          → (if b then Some Stopped else if c then Some Limit
          else end_by (step (state_after k s)).turn (nat_le room (length (progress k s).codes))) ≡ Some Stopped
          → resumes < (progress k s).stops
      by_tests true c e h = grind (arith, nat_tests)
      by_tests false true e h = absurd (cc)
      by_tests false false e h = absurd (not_stopped_by (step (state_after k s)).turn _ h)

  -- and with more stops than resumes it ends at one
  stopped_at : (j : ℕ) → resumes < (progress j s).stops → end_at limit resumes room j (progress j s) ≡ Some Stopped
  stopped_at j more = rw (lt-ltb resumes (progress j s).stops more) refl

  pub stopped_with_more : resumes < (progress k s).stops → ran.ending ≡ Stopped
  stopped_with_more more = same_Some _ _ (sym (ran_ends limit resumes room s).now ∙ stopped_at k more)

  -- before that there were not
  few_before : (j : ℕ) → j < k → (progress j s).stops ≤ resumes
  few_before j less = elim (cases_lt resumes (progress j s).stops) [
    | inl more ↦ absurd (none-some Stopped (sym ((ran_ends limit resumes room s).first j less) ∙ stopped_at j more))
    | inr few ↦ few
  ]

  -- the last order was the stop
  pub record EndsByStop : Type 0 where
    pub before : ℕ
    pub count : k ≡ suc before
    pub turn : stops_of (step (state_after before s)).turn ≡ 1
    pub all : (progress k s).stops ≡ resumes + 1

  one_or_none : (t : Turn) → stops_of t ≤ 1
  one_or_none t = search rules

  pub ends_by_stop : ran.ending ≡ Stopped → EndsByStop
  ends_by_stop is = by_count k refl
    where
      by_count : (n : ℕ) → k ≡ n → EndsByStop
      by_count zero e =
          absurd (omega (arith, more_stops is, ap (λ n. (progress n s).stops) e, none_at_first s))
      by_count (suc j) e =
          let plus : j + 1 ≡ suc j = omega arith in
          let stops : (progress k s).stops ≡ (progress j s).stops + stops_of (step (state_after j s)).turn =
          ap (λ n. (progress n s).stops) (e ∙ sym plus) ∙ next_stops j s in
          let less : j < k = omega (arith, e) in
          record {
            before = j;
            count = e;
            turn = omega (arith, stops, more_stops is, few_before j less, one_or_none (step (state_after j s)).turn);
            all = omega (arith, stops, more_stops is, few_before j less, one_or_none (step (state_after j s)).turn);
          }

-- ---- the order before the counter

stop_by : (k : Option Kind) (w : ℕ) (s : State) → stops_of (obey_word k w s).turn ≡ 1
    → (k ≡ Some Z) × (obey_word k w s ≡ stop_order s)
stop_by k w s h = search rules

past_stop : (s : State) → stops_of (step s).turn ≡ 1 → IsPastStop (step s).state
unfolding step
past_stop s h = search (rules, stop_by)

pub run_past_stop : (limit resumes room : ℕ) (s : State) → (run_end limit resumes room s).ending ≡ Stopped
    → IsPastStop (run_end limit resumes room s).state
unfolding run_end
run_past_stop limit resumes room s is =
    let e = ends_by_stop limit resumes room s is in
    let plus : run_orders limit resumes room s ≡ e.before + 1 = omega (arith, e.count) in
    search (rules, past_next, past_stop)

-- ---- the whole run

free_by : (turn : Turn) (full : Bool) → end_by turn full ≡ None → is_obeyed turn ≡ true
free_by turn full h = search rules

-- each of its orders is obeyed
run_free : (limit resumes room : ℕ) (s : State) → AreObeyed (run_orders limit resumes room s) s
run_free limit resumes room s j less =
    by_tests (nat_lt resumes (progress j s).stops) (nat_eq j limit) ((ran_ends limit resumes room s).first j less)
  where
    turn : Turn
    turn = (step (state_after j s)).turn

    by_tests : (b c : Bool)
        → (if b then Some Stopped else if c then Some Limit
        else end_by turn (nat_le room (length (progress j s).codes))) ≡ None
        → is_obeyed turn ≡ true
    by_tests true c h = absurd (none-some Stopped (sym h))
    by_tests false true h = absurd (none-some Limit (sym h))
    by_tests false false h = free_by turn _ h

-- so they are counted
run_counted : (limit resumes room : ℕ) (s : State) → s.orders ≡ 0
    → (run_end limit resumes room s).state.orders ≡ run_orders limit resumes room s
unfolding run_end
run_counted limit resumes room s none = search (rules, counted_after, run_free)

stopped_is : (e : Ending) → status_of e ≡ 0 → e ≡ Stopped
stopped_is e h = search rules

zed_is : (byte : ℕ) → 1 ≡ one_if (byte == 90) → byte ≡ 90
zed_is byte = search rules

module _ (limit resumes : ℕ) (s : State) where
  abbrev n : ℕ
  n = run_orders limit resumes limit s

  abbrev end : Ending
  end = (run_end limit resumes limit s).ending

  stop_by_zeds : stops_in (letters_in (trace_to n s)) ≡ resumes + 1 → status_of end ≡ 0
  stop_by_zeds zeds = ap status_of (stopped_with_more limit resumes limit s (omega (arith, zeds, zeds_count n s)))

  last_zed : end ≡ Stopped → (before : Text) × (letters_in (trace_to n s) ≡ before ++ 90 ∷ [])
  last_zed is =
      let e = ends_by_stop limit resumes limit s is in
      let letter : next_letter (state_after e.before s) ≡ 90 =
      zed_is (next_letter (state_after e.before s)) (sym e.turn ∙ letter_stops (state_after e.before s)) in (
        letters_in (trace_to e.before s),
        ap (λ m. letters_in (trace_to m s)) e.count ∙ more_letters e.before s
            ∙ ap (λ byte. letters_in (trace_to e.before s) ++ byte ∷ []) letter,
      )

pub each_trace_accounts : EachTraceAccounts
each_trace_accounts s rows =
    let first = first_state s.size rows in
    let n = run_orders s.limit s.resumes s.limit first in
    record {
      orders = letters_count n first ∙ sym (run_counted s.limit s.resumes s.limit first (none_done s.size rows));
      stops = (
        λ done.
            zeds_count n first ∙ (ends_by_stop s.limit s.resumes s.limit first (stopped_is _ done)).all,
        stop_by_zeds s.limit s.resumes first,
      );
      last = λ done. last_zed s.limit s.resumes first (stopped_is _ done);
      past = λ done. run_past_stop s.limit s.resumes s.limit first (stopped_is _ done);
      tape_past = λ done. run_past_stop s.limit s.resumes paper_room first (stopped_is _ done);
    }
