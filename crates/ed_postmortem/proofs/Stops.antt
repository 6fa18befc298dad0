-- A run from a state whose orders lead to a stop ends there, and prints what these orders print.
use Rattle.ed_postmortem.proofs.Kit.{append-nil, Sheet, Ending, Leads, IsRun, ap, inl, inr, length, List, suc, true, ℕ}
use Rattle.ed_postmortem.proofs.Kit.{◌++◌, ◌-◌, ◌<◌, ◌∙◌, ◌≡◌, ◌≤◌, cases_lt, Obeyed, step, State, state_after, rules}
use Rattle.ed_run.proofs.Kit.{◌⊎◌, is_obeyed, progress, first_once, EndsAfter}
use Rattle.ed_machine.specs.declared.ending.Ending.TheVariants.{Stopped}
use Rattle.ed_machine.specs.declared.turn.Turn.TheVariants.{Stopped as Stops}
use Rattle.ed_machine.proofs.Kit.Leads.{AreObeyed-leads, no_stops}
use Rattle.ed_run.specs.Laws.{HasRoom}
use Rattle.ed_run.proofs.Places.{at_stop}

-- k orders lead from s to t, and the next one stops the machine and leaves u
module _ {k : ℕ} {s t u : State} {codes : List ℕ} (l : Leads k s codes t)
    (last : step t ≡ record { state = u; turn = Stops }) where
  turn_is : (step (state_after k s)).turn ≡ Stops
  turn_is = ap (λ (x : State). (step x).turn) l.state_is ∙ ap (λ (o : Obeyed). o.turn) last

  -- the state after the stop
  pub behind_stop : state_after (suc k) s ≡ u
  unfolding progress
  behind_stop = ap (λ (x : State). (step x).state) l.state_is ∙ ap (λ (o : Obeyed). o.state) last

  codes_are : (progress (suc k) s).codes ≡ codes
  unfolding progress
  codes_are = search (rules, turn_is, append-nil)

  all_obeyed : (j : ℕ) → (j < k) ⊎ (k ≤ j) → j < suc k → is_obeyed (step (state_after j s)).turn ≡ true
  all_obeyed j (inl below) h = AreObeyed-leads l j below
  all_obeyed j (inr above) h = search (rules, turn_is)

  -- how a run from there without resumes ends
  pub run_stops : {limit : ℕ} {sheet full : Sheet} {ending : Ending} {left : State}
      → IsRun limit 0 s sheet ending left full → suc k ≤ limit → length codes ≤ sheet.room - length sheet.codes
      → (left ≡ u) × (full ≡ record { codes = sheet.codes ++ codes; room = sheet.room })
  run_stops {limit} {sheet} {ending = ending} run fits roomy =
      let room : ℕ = sheet.room - length sheet.codes in
      let has : HasRoom room (suc k) s = record {
        obeyed = λ j h. all_obeyed j (cases_lt j k) h;
        printed = rw codes_are roomy;
      } in
      let ends : EndsAfter limit 0 room s (suc k) Stopped =
      at_stop limit 0 has (no_stops k s l.goes) fits turn_is in
      let orders : run.orders ≡ suc k =
      (first_once run.ends ends).0 in (
        run.state_is ∙ ap (λ j. state_after j s) orders ∙ behind_stop,
        run.sheet_is ∙ (λ i. record {
          codes = sheet.codes ++ (ap (λ j. (progress j s).codes) orders ∙ codes_are) i;
          room = sheet.room;
        }),
      )
