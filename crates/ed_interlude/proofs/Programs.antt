-- A program that may obey at most a number of orders ends or returns, after exactly one number of them.
use Rattle.ed_interlude.proofs.Kit.{same_Some, Ending, Limit, Stopped, Turn, Printed, Went, rules, Progress, stops_of}
use Rattle.ed_interlude.proofs.Kit.{end_by, [], ap, arith, false, inl, inr, None, Option, refl, Some, subst, suc, sym}
use Rattle.ed_interlude.proofs.Kit.{zero, ℕ, ◌+◌, ◌<◌, ◌∙◌, ◌≡◌, ◌≢◌, ◌≤◌, ◌⊎◌, cases_lt, step, State, progress}
use Rattle.ed_interlude.proofs.Kit.{state_after, next_state, Finishes, ReturnsToLoader, RunsOn, IsReturned}
use Rattle.std.proofs.Common.{below_more, is_some, true≢false}
use Rattle.std.proofs.lemmas.Bool.{cases_order}
use Rattle.std.proofs.lemmas.Option.{none-some}
use Rattle.ed_machine.specs.declared.turn.Turn.TheVariants.{Stopped as Stops}
use Rattle.ed_machine.proofs.LeastNumbers.{first_within}
use Rattle.ed_machine.proofs.Steps.{next_stops}
use Rattle.ed_interlude.specs.Parts.{IsUnderWay, program_end}
use Rattle.ed_interlude.proofs.Homes.{home_or_not}
use Rattle.ed_run.proofs.Ends as ends

-- a turn that only goes on or prints
pub record GoesOn (turn : Turn) : Type 0 where
  pub no_end : end_by turn false ≡ None
  pub no_stop : stops_of turn ≡ 0

pub GoesOn-going : (turn : Turn) → (turn ≡ Went) ⊎ ((code : ℕ) × (turn ≡ Printed code)) → GoesOn turn
GoesOn-going turn (inl is) = record { no_end = ap (λ t. end_by t false) is; no_stop = ap stops_of is }
GoesOn-going turn (inr p) = record { no_end = ap (λ t. end_by t false) p.1; no_stop = ap stops_of p.1 }

-- a program returned or ended
abbrev pub CameTo : ℕ → State → Type 0
CameTo left s = (k : ℕ) × (ReturnsToLoader left k s ⊎ ((ending : Ending) × Finishes left k s ending))

module _ (left : ℕ) (s : State) where
  -- the orders of a program whose codes are dropped
  abbrev unprinted : ℕ → Progress
  unprinted k = record (progress k s) { codes = [] }

  -- after a stop the end is that stop
  pub stop_ends : (k : ℕ) → 0 < (progress k s).stops → program_end left k s ≡ Some Stopped
  stop_ends k h = ends.stop_ends left 0 1 k (unprinted k) h

  -- at the limit
  pub limit_ends : (k : ℕ) → k ≡ left → (progress k s).stops ≡ 0 → program_end left k s ≡ Some Limit
  limit_ends k is none = ends.limit_ends left 0 1 k (unprinted k) (omega (arith, none)) is

  -- and otherwise by the next order
  pub next_ends : (k : ℕ) → k < left → (progress k s).stops ≡ 0
      → program_end left k s ≡ end_by (step (state_after k s)).turn false
  next_ends k below none = ends.next_ends left 0 1 k (unprinted k) (omega (arith, none)) below

  -- what is under way is within its limit
  pub way_within : (k : ℕ) → IsUnderWay left k s → k ≢ left
  way_within k way is =
      true≢false (sym (ends.ends_at_limit left 0 1 (unprinted left)) ∙ ap (λ n. is_some (program_end left n s)) (sym is)
      ∙ ap is_some way.no_end)

  pub runs_within : (k : ℕ) → RunsOn left k s → k ≤ left
  runs_within k runs =
      first_within k left (λ j l. (runs j l).no_end) (ends.ends_at_limit left 0 1 (unprinted left))

  pub home_within : (k : ℕ) → ReturnsToLoader left k s → k ≤ left
  home_within k h = runs_within k h.runs

  -- and has obeyed no stop
  pub way_stops : (k : ℕ) → IsUnderWay left k s → (progress k s).stops ≡ 0
  way_stops k way = elim (cases_lt 0 (progress k s).stops) [
    | inl many ↦ absurd (none-some Stopped (sym way.no_end ∙ stop_ends k many))
    | inr none ↦ omega (arith, none)
  ]

  -- it returns after one number of orders
  pub home_once : (j k : ℕ) → ReturnsToLoader left j s → ReturnsToLoader left k s → j ≡ k
  home_once j k a b = elim (cases_order j k) [
    | inl same ↦ same
    | inr other ↦ elim other [
      | inl low ↦ absurd ((b.runs j low).away a.home)
      | inr high ↦ absurd ((a.runs k high).away b.home)
    ]
  ]

  -- and does not end then
  pub home_or_end : (j k : ℕ) (ending : Ending) → ReturnsToLoader left j s → Finishes left k s ending → ⊥
  home_or_end j k ending a b = search rules

  -- it ends at one number of orders, with one ending
  pub end_once : (j k : ℕ) (d e : Ending) → Finishes left j s d → Finishes left k s e → (j ≡ k) × (d ≡ e)
  end_once j k d e a b =
      elim (cases_order j k) [
        | inl same ↦ (same, same_Some d e (sym a.ends ∙ ap (λ n. program_end left n s) same ∙ b.ends))
        | inr other ↦ elim other [
          | inl low ↦ absurd (none-some d (sym (b.runs j low).no_end ∙ a.ends))
          | inr high ↦ absurd (none-some e (sym (a.runs k high).no_end ∙ b.ends))
        ]
      ]

  -- ---- there is one of them

  one_more : (k : ℕ) → RunsOn left k s → IsUnderWay left k s → RunsOn left (k + 1) s
  one_more k runs here = below_more (λ j. IsUnderWay left j s) k runs here

  -- what it did by k orders, or what it does after that if it is still under way
  here_or_on : (k : ℕ) → RunsOn left k s → (IsUnderWay left k s → CameTo left s) → CameTo left s
  here_or_on k runs on =
      elim (cases_lt 0 (progress k s).stops) [
        | inl many ↦ (k, inr (Stopped, record { runs = runs; ends = stop_ends k many; stopped = λ h. refl }))
        | inr none ↦ elim (home_or_not (state_after k s)) [
          | inl home ↦ (k, inl (record { runs = runs; stops = omega arith; home = home }))
          | inr away ↦ by_end away (program_end left k s) refl
        ]
      ]
    where
      by_end : (IsReturned (state_after k s) → ⊥) → (o : Option Ending) → program_end left k s ≡ o → CameTo left s
      by_end away None is = on (record { no_end = is; away = away })
      by_end away (Some ending) is =
          (k, inr (ending, record { runs = runs; ends = is; stopped = λ home. absurd (away home) }))

  seek : (r k : ℕ) → k + r ≡ left → RunsOn left k s → CameTo left s
  seek zero k is runs = here_or_on k runs (λ way. absurd (way_within k way (omega arith)))
  seek (suc r) k is runs = here_or_on k runs (λ way. seek r (k + 1) (omega arith) (one_more k runs way))

  pub comes_to : CameTo left s
  comes_to = seek left 0 (omega arith) (λ j h. absurd (omega arith))

  -- ---- a program that is obeyed

  -- it is still under way before its order number k
  pub record Running (k : ℕ) (m : State) : Type 0 where
    pub state : m ≡ state_after k s
    pub runs : RunsOn left k s
    pub stops : (progress k s).stops ≡ 0

  pub running_first : Running 0 s
  unfolding progress
  running_first = record { state = refl; runs = λ j h. absurd (omega arith); stops = refl }

-- such a program
module _ {left : ℕ} {s : State} {k : ℕ} {m : State} (r : Running left s k m) where
  -- it has returned
  pub is_definition_of : IsReturned m → ReturnsToLoader left k s
  is_definition_of home = record { runs = r.runs; stops = r.stops; home = subst (λ t. IsReturned t) r.state home }

  away_there : (IsReturned m → ⊥) → IsReturned (state_after k s) → ⊥
  away_there away home = away (subst (λ t. IsReturned t) (sym r.state) home)

  -- its next order
  module _ {turn : Turn} (below : k < left) (away : IsReturned m → ⊥) (is : turn ≡ (step m).turn) where
    turn_there : turn ≡ (step (state_after k s)).turn
    turn_there = is ∙ ap (λ t. (step t).turn) r.state

    end_there : program_end left k s ≡ end_by turn false
    end_there = next_ends left s k below r.stops ∙ ap (λ t. end_by t false) (sym turn_there)

    -- it cannot go on
    pub Finishes-blocks : {ending : Ending} → end_by turn false ≡ Some ending → Finishes left k s ending
    Finishes-blocks ends = record {
      runs = r.runs;
      ends = end_there ∙ ends;
      stopped = λ home. absurd (away_there away home);
    }

    way : end_by turn false ≡ None → RunsOn left (k + 1) s
    way none = one_more left s k r.runs (record { no_end = end_there ∙ none; away = away_there away })

    stops_more : (progress (k + 1) s).stops ≡ stops_of turn
    stops_more = omega (arith, next_stops k s, r.stops, ap stops_of turn_there)

    -- it stops
    pub stops_there : turn ≡ Stops → Finishes left (k + 1) s Stopped
    stops_there stop = record {
      runs = way (ap (λ t. end_by t false) stop);
      ends = stop_ends left s (k + 1) (omega (arith, stops_more, ap stops_of stop));
      stopped = λ h. refl;
    }

    -- it goes on
    pub goes_on : {n : State} → n ≡ (step m).state → GoesOn turn → Running left s (k + 1) n
    goes_on to on = record {
      state = next_state k s r.state to;
      runs = way on.no_end;
      stops = stops_more ∙ on.no_stop;
    }

-- it reaches its limit
pub at_limit : {left k : ℕ} {s m : State} → k ≡ left → Running left s k m → (IsReturned m → ⊥) → Finishes left k s Limit
at_limit {left} {k} {s} is r away = record {
  runs = r.runs;
  ends = limit_ends left s k is r.stops;
  stopped = λ home. absurd (away_there r away home);
}
