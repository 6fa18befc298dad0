-- The whole trace of a run.
use Rattle.ed_stepper.proofs.Kit.{is_some, ◌≢◌, eq-eqb, ne_eqb, first_once, first_within, append-nil, ◌%◌, State}
use Rattle.ed_stepper.proofs.Kit.{progress, state_after, end_at, [], ap, append_assoc, arith, Err, inl, inr, List, None}
use Rattle.ed_stepper.proofs.Kit.{Ok, Option, refl, subst, sym, ℕ, ◌++◌, ◌+◌, ◌-◌, ◌<◌, ◌∙◌, ◌∷◌, ◌≡◌, ◌≤◌, Gains}
use Rattle.ed_stepper.proofs.Kit.{GainsPart, Failed, gains_more, functions_count, BreaksTrace, Lines}
use Rattle.ed_stepper.proofs.Kit.{orders_in_full_lines, traced_letters, trace_to}
use Rattle.ed_machine.specs.declared.ending.Ending.{Ending}
use Rattle.ed_run.specs.Run.{EndsAfter, run_end, run_orders}
use Rattle.ed_run.proofs.Ends.{ran_ends}
use Rattle.ed_report.specs.Traces.{last_end}
use Rattle.ed_stepper.specs.Private.Growth.{EndsLine}
use Rattle.ed_stepper.specs.Traces.{TraceBroke, trace_of}
use Rattle.ed_stepper.proofs.Growing.{more_traced, part_of_longer}
use Rattle.std.proofs.Common.{rules}

-- the whole trace is that of the orders of the run
whole_trace : (limit resumes : ℕ) (s : State)
    → trace_of limit resumes s ≡ traced_letters (run_orders limit resumes limit s) s
    ++ last_end (run_orders limit resumes limit s)
whole_trace limit resumes s =
    let n : ℕ = run_orders limit resumes limit s in ap (λ k. traced_letters n s ++ last_end k) (functions_count n s)

-- what was found of a run is what the function gives
pub EndsAfter-run_end : (limit resumes : ℕ) (s : State) {k : ℕ} {ending : Ending}
    → EndsAfter limit resumes limit s k ending
    → (k ≡ run_orders limit resumes limit s)
    × ((ending ≡ (run_end limit resumes limit s).ending) × (state_after k s ≡ (run_end limit resumes limit s).state))
unfolding run_end
EndsAfter-run_end limit resumes s e =
    let one = first_once e (ran_ends limit resumes limit s) in (one.0, (one.1, ap (λ n. state_after n s) one.0))

-- the trace of orders whose lines are full
trace_full : (k : ℕ) (s : State) → k % 50 ≡ 0 → trace_to k s ≡ traced_letters k s
trace_full k s h = search (rules, eq-eqb, functions_count, append-nil)

-- and of others
trace_open : (k : ℕ) (s : State) → k % 50 ≢ 0 → trace_to k s ≡ traced_letters k s ++ 10 ∷ []
trace_open k s h = search (rules, ne_eqb, functions_count)

-- no more orders are obeyed than those of the run
within_run : (limit resumes : ℕ) (s : State) (k : ℕ)
    → ((j : ℕ) → j < k → end_at limit resumes limit j (progress j s) ≡ None) → k ≤ run_orders limit resumes limit s
within_run limit resumes s k first = first_within k _ first (ap is_some (ran_ends limit resumes limit s).now)

-- the write of a line that was full failed
module _ {limit resumes : ℕ} {s last : State} {before after : Option (List ℕ)}
    (b : BreaksTrace limit resumes s last before after) where
  within : b.orders ≤ run_orders limit resumes limit s
  within = within_run limit resumes s b.orders b.first

  front_full : (b.orders - 50) % 50 ≡ 0
  front_full = let h = b.full in grind arith

  at_least : 50 ≤ b.orders
  at_least = let h = b.full in let some = b.some in grind arith

  pub full_broke : TraceBroke limit resumes s last before after
  full_broke = record {
    written = b.orders - 50;
    orders = b.orders;
    full = front_full;
    some = omega (arith, at_least);
    most = omega arith;
    within = within;
    ends = inl (omega (arith, at_least));
    state_is = b.state_is;
    part = b.part;
    rest = b.rest;
    line = trace_full b.orders s b.full ∙ b.line
        ∙ ap (λ t. t ++ (b.part ++ b.rest)) (sym (trace_full (b.orders - 50) s front_full));
    gains = subst (λ t. Gains before after (t ++ b.part)) (sym (trace_full (b.orders - 50) s front_full)) b.gains;
  }

  pub full_part : GainsPart before after (trace_of limit resumes s)
  full_part =
      let n = run_orders limit resumes limit s in
      let e : b.orders + (n - b.orders) ≡ n = omega (arith, within) in
      let r = more_traced b.orders (n - b.orders) s in
      part_of_longer before after (traced_letters b.orders s) (trace_of limit resumes s) (r.0 ++ last_end n)
      (whole_trace limit resumes s ∙ ap (λ t. t ++ last_end n) (sym (ap (λ k. traced_letters k s) e) ∙ r.1)
      ∙ append_assoc (traced_letters b.orders s) r.0 (last_end n))
      (record {
        part = traced_letters (b.orders - 50) s ++ b.part;
        rest = b.rest;
        whole = b.line ∙ sym (append_assoc (traced_letters (b.orders - 50) s) b.part b.rest);
        gains = b.gains;
      })

-- the last line
module _ {k : ℕ} {s : State} {before now : Option (List ℕ)} where
  -- its text, after the full lines
  last_line : {held : List ℕ} → Lines k s before now held → k % 50 ≢ 0
      → trace_to k s ≡ traced_letters (orders_in_full_lines k) s ++ (held ++ 10 ∷ [])
  last_line {held} lines h = search (rules, trace_open, append_assoc)

  -- all is written
  pub all_written : (after : Option (List ℕ)) (u : Unit {0}) (held : List ℕ) → Lines k s before now held
      → EndsLine held (Ok u) now after → Gains before after (trace_to k s)
  all_written after u [] lines p = search (rules, trace_full, append-nil)
  all_written after u (l ∷ held) lines p =
      let some : k % 50 ≢ 0 = omega (arith, lines.few) in
      subst (λ t. Gains before after t) (sym (last_line lines some))
      (gains_more before now after (traced_letters (orders_in_full_lines k) s) ((l ∷ held) ++ 10 ∷ []) lines.gains p)

  -- its write failed
  last_broke : {limit resumes : ℕ} {last : State} (after : Option (List ℕ)) (e : Failed) (held : List ℕ)
      → Lines k s before now held
      → k ≡ run_orders limit resumes limit s → last ≡ state_after k s → EndsLine held (Err e) now after
      → (b : TraceBroke limit resumes s last before after) × (b.orders ≡ k)
  last_broke after e [] lines is state p = absurd p
  last_broke after e (l ∷ held) lines is state p =
      let some : k % 50 ≢ 0 = omega (arith, lines.few) in
      let front : orders_in_full_lines k % 50 ≡ 0 = grind arith in (
        record {
          written = orders_in_full_lines k;
          orders = k;
          full = front;
          some = grind arith;
          most = grind arith;
          within = omega (arith, is);
          ends = inr is;
          state_is = state;
          part = p.part;
          rest = p.rest;
          line = last_line lines some ∙ ap (λ t. traced_letters (orders_in_full_lines k) s ++ t) p.whole
              ∙ ap (λ t. t ++ (p.part ++ p.rest)) (sym (trace_full (orders_in_full_lines k) s front));
          gains = subst (λ t. Gains before after (t ++ p.part)) (sym (trace_full (orders_in_full_lines k) s front))
              (gains_more before now after (traced_letters (orders_in_full_lines k) s) p.part lines.gains p.gains);
        },
        refl,
      )

-- what was written of a run is a part of its trace
broke_part : {limit resumes : ℕ} {s last : State} {before after : Option (List ℕ)}
    (b : TraceBroke limit resumes s last before after) → b.orders ≡ run_orders limit resumes limit s
    → GainsPart before after (trace_of limit resumes s)
broke_part {limit} {resumes} {s} b is = search (rules, append_assoc)

-- the write of the last line failed
pub last_failed : {limit resumes k : ℕ} {s last : State} {before now after : Option (List ℕ)} {held : List ℕ}
    (e : Failed)
    → Lines k s before now held → k ≡ run_orders limit resumes limit s → last ≡ state_after k s
    → EndsLine held (Err e) now after
    → GainsPart before after (trace_of limit resumes s) × TraceBroke limit resumes s last before after
last_failed {after = after} {held = held} e lines is state p =
    let b = last_broke after e held lines is state p in (broke_part b.0 (b.1 ∙ is), b.0)
