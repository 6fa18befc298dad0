-- A trace and a session reach the entry of a tape as its run does.
use Rattle.ed_laws.proofs.Kit.{few_codes, Settings, le-ltb, lt-leb, ap, arith, List, None, rules, sym, ℕ, ◌+◌, ◌-◌, ◌<◌}
use Rattle.ed_laws.proofs.Kit.{◌∙◌, ◌≡◌, ◌≤◌, State, progress, state_after, least_below, AllWent, end_at, EndsAfter}
use Rattle.ed_laws.proofs.Kit.{run_end, run_orders, ran_ends, TapeEntry, first_state, ending_line, move_end, first_once}
use Rattle.ed_laws.proofs.Kit.{after_sum, move_orders, trace_to, ne_eqb, LeadsIn, letters_in, cases_lt, inl, inr, ◌⊎◌}
use Rattle.std.proofs.lemmas.Bool.{eq-eqb}
use Rattle.ed_machine.proofs.LeastNumbers.{first_later}
use Rattle.ed_machine.proofs.Steps.{no_step, quiet_stops}
use Rattle.ed_run.proofs.Later.{past_on}
use Rattle.ed_stepper.specs.MoveEnds.{Ends}
use Rattle.ed_stepper.specs.declared.moves.MoveEnd.TheVariants.{Entered}
use Rattle.ed_stepper.specs.declared.moves.MoveTarget.TheVariants.{Entry}
use Rattle.ed_stepper.proofs.Founds.{end_found, orders_found}
use Rattle.ed_laws.specs.TapeEntries.{StepsToEntry, TracesFromEntry}
use Rattle.ed_laws.proofs.Stepped.{letters_sum}

-- ---- a trace whose first orders neither print nor stop

module _ (limit resumes k : ℕ) (s : State) (went : AllWent k s) (fits : k ≤ limit) where
  abbrev pub t : State
  t = state_after k s

  same_there : (j : ℕ) → j ≤ limit - k → (j < limit - k) ⊎ (limit - k ≤ j)
      → end_at limit resumes limit (k + j) (progress j t) ≡ end_at (limit - k) resumes (limit - k) j (progress j t)
  same_there j below (inl less) = search (rules, few_codes, lt-leb, ne_eqb)
  same_there j below (inr all) = search (rules, eq-eqb)

  -- an end of the run from there is one of the whole run
  same_end : (j : ℕ) → j ≤ limit - k → end_at limit resumes limit (k + j) (progress (k + j) s)
      ≡ end_at (limit - k) resumes (limit - k) j (progress j t)
  same_end j below =
      ap (end_at limit resumes limit (k + j)) (past_on j k s went) ∙ same_there j below (cases_lt j (limit - k))

  -- no end comes before
  none_before : (j : ℕ) → j < k → end_at limit resumes limit j (progress j s) ≡ None
  none_before j below = search (rules, quiet_stops, le-ltb, ne_eqb)

  whole_ends : EndsAfter limit resumes limit s (k + run_orders (limit - k) resumes (limit - k) t)
      (run_end (limit - k) resumes (limit - k) t).ending
  whole_ends =
      let most : run_orders (limit - k) resumes (limit - k) t ≤ limit - k = least_below _ (limit - k) in
      first_later none_before (λ j few. same_end j (omega (arith, few, most)))
      (ran_ends (limit - k) resumes (limit - k) t)

  -- so the run obeys as many orders more, and ends as the other does
  pub record GoesOn : Type 0 where
    pub orders : run_orders limit resumes limit s ≡ k + run_orders (limit - k) resumes (limit - k) t
    pub ending : (run_end limit resumes limit s).ending ≡ (run_end (limit - k) resumes (limit - k) t).ending
    pub state : (run_end limit resumes limit s).state ≡ (run_end (limit - k) resumes (limit - k) t).state

  pub goes_on : GoesOn
  unfolding run_end
  goes_on =
      let one = first_once (ran_ends limit resumes limit s) whole_ends in
      search (rules, after_sum)

-- ---- a session that moves to the entry

module _ (s : State) (e : TapeEntry) (into : LeadsIn s e) where
  pub moves_there : (left : ℕ) → e.cost ≤ left → Ends Entry left s e.cost Entered
  moves_there left fits = search rules

-- ---- of a tape

module _ (s : Settings) (codes : List ℕ) (e : TapeEntry) (into : LeadsIn (first_state s.size codes) e)
    (fits : e.cost ≤ s.limit) where
  abbrev first : State
  first = first_state s.size codes

  pub traces_from_entry : TracesFromEntry s codes e
  traces_from_entry =
      let less = s.limit - e.cost in
      let on = goes_on s.limit s.resumes e.cost first into.went fits in
      let end = λ (x : State). run_end less s.resumes less x in
      let note = λ (x : State). ending_line (end x).ending (end x).state in
      let letters = λ (x : State). letters_in (trace_to (run_orders less s.resumes less x) x) in
      search (rules, letters_sum)

  pub steps_to_entry : StepsToEntry s codes e
  steps_to_entry =
      let ends = moves_there first e into s.limit fits in
      let none : s.limit - 0 ≡ s.limit = omega arith in
      let start : state_after 0 first ≡ first = sym (no_step first) in
      let orders : move_orders Entry (s.limit - 0) (state_after 0 first) ≡ e.cost =
      (λ i. move_orders Entry (none i) (start i)) ∙ sym (orders_found Entry s.limit e.cost first Entered ends) in
      let end : move_end Entry (s.limit - 0) (state_after 0 first) ≡ Entered =
      (λ i. move_end Entry (none i) (start i)) ∙ sym (end_found Entry s.limit e.cost first Entered ends) in
      let zero_and : 0 + move_orders Entry (s.limit - 0) (state_after 0 first) ≡ e.cost = omega (arith, orders) in
      let at : (state_after e.cost first).counter ≡ e.at = ap (λ (x : State). x.counter) into.arrives in
      search rules
