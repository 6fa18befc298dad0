-- Orders that lead to a stop, and the run that they are.
use Rattle.ed_machine.proofs.Names.{ap, append-nil, arith, inl, inr, length, List, None, Option, refl, rules, Some}
use Rattle.ed_machine.proofs.Names.{suc, ℕ, ◌++◌, ◌+◌, ◌<◌, ◌∙◌, ◌≡◌, ◌≤◌, cases_lt, locations, function_of}
use Rattle.ed_machine.proofs.Names.{kind_of_function, after, done_at, next_word, obey_word, step, State, AreObeyed}
use Rattle.ed_machine.proofs.Names.{codes_of, is_obeyed, progress, state_after}
use Rattle.ed_headline.proofs.Kit.{run_end, RunEnd, ran_ends}
use Rattle.ed_words.proofs.SizeLemmas.{within_below}
use Rattle.ed_orders.specs.declared.kind.Kind.{Kind}
use Rattle.ed_orders.specs.declared.kind.Kind.TheVariants.{E, G, I, Z}
use Rattle.ed_machine.specs.declared.ending.Ending.TheVariants.{Stopped}
use Rattle.ed_machine.specs.declared.turn.Turn.{Turn}
use Rattle.ed_machine.specs.declared.turn.Turn.TheVariants.{Stopped as Stops}
use Rattle.ed_machine.proofs.Counts.{counted_after}
use Rattle.ed_machine.proofs.Kit.Leads.{Leads, AreObeyed-leads, Leads-append, no_stops}
use Rattle.ed_machine.proofs.LeastNumbers.{first_once}
use Rattle.ed_run.specs.Laws.{HasRoom}
use Rattle.ed_run.proofs.Places.{at_stop}
use Rattle.ed_routines.proofs.Journeys.{ReachesStop}
use Rattle.ed_checker.proofs.Guests.{size_after}
use Rattle.std.proofs.lemmas.Grind.{common_steps}

-- k orders print the codes and lead to an order at a location that stops the machine
pub record StopsAt (k : ℕ) (s : State) (codes : List ℕ) (place : ℕ) : Type 0 where
  pub last : State
  pub leads : Leads k s codes last
  pub stops : (step last).turn ≡ Stops
  pub counter : last.counter ≡ place

-- and after other orders
pub StopsAt-behind : {a b place : ℕ} {s t : State} {cs ds : List ℕ} → Leads a s cs t → StopsAt b t ds place
    → StopsAt (a + b) s (cs ++ ds) place
StopsAt-behind first o = search (rules, Leads-append)

-- the order that stops the machine moves its counter on
stopped_state : (k : Option Kind) (w : ℕ) (x : State) → (obey_word k w x).turn ≡ Stops
    → (obey_word k w x).state ≡ done_at (after x) x
stopped_state (Some E) w x h = grind (arith, common_steps)
stopped_state (Some G) w x h = grind (arith, common_steps)
stopped_state (Some I) w x h = search rules
stopped_state (Some Z) w x h = refl
stopped_state None w x h = cc
stopped_state (Some kind) w x h = cc

step_stopped : (x : State) → (step x).turn ≡ Stops → (step x).state ≡ done_at (after x) x
unfolding step
step_stopped x h = stopped_state (kind_of_function (function_of (next_word x))) (next_word x) x h

-- so the counter is at the next location, and it is one order more
pub comes_to_stop : {k place : ℕ} {s : State} {codes : List ℕ} → StopsAt k s codes place
    → place + 1 < locations s.size → ReachesStop k s codes (place + 1)
comes_to_stop {k} {place} {s} o below =
    search (rules, after, step_stopped, size_after, counted_after, AreObeyed-leads, within_below)

-- how a run ends that stops at an order
pub record RanToStop (r : RunEnd) (codes : List ℕ) (last : State) : Type 0 where
  pub codes_are : r.codes ≡ codes
  pub ending : r.ending ≡ Stopped
  pub state_is : r.state ≡ (step last).state

-- a run without resumes whose limit they keep, and whose paper has room for the codes, ends there
pub ran_to_stop : (limit room k : ℕ) (s : State) (codes : List ℕ) {at : ℕ} (o : ReachesStop k s codes at)
    → length codes ≤ room → suc k ≤ limit → RanToStop (run_end limit 0 room s) codes o.last
unfolding progress run_end
ran_to_stop limit room k s codes o fits less =
    let turn : (step (state_after k s)).turn ≡ Stops = ap (λ (x : State). (step x).turn) o.leads.state_is ∙ o.stops in
    let all : (progress (suc k) s).codes ≡ codes =
    ap (λ (t : Turn). (progress k s).codes ++ codes_of t) turn ∙ append-nil (progress k s).codes ∙ o.leads.codes_are in
    let obeyed : AreObeyed (suc k) s = λ j l.
    elim (cases_lt j k) [
      | inl below ↦ AreObeyed-leads o.leads j below
      | inr here ↦ let e : j ≡ k = omega arith in ap (λ x. is_obeyed (step (state_after x s)).turn) e
          ∙ ap is_obeyed turn
    ] in
    let few : length (progress (suc k) s).codes ≤ room = let n = ap (λ (x : List ℕ). length x) all in
    omega (arith, n, fits) in
    let has : HasRoom room (suc k) s = record { obeyed = obeyed; printed = few } in
    let ends = at_stop limit 0 has (no_stops k s o.leads.goes) less turn in
    let once = first_once (ran_ends limit 0 room s) ends in
    search rules
