-- Two runs from a state, of which one ends no sooner than the other.
use Rattle.ed_laws.proofs.Kit.{Ending, Limit, Stopped, past_sum, ran_is, StartsWith, ap, arith, length, nat_le, None}
use Rattle.ed_laws.proofs.Kit.{refl, rules, Some, sym, ℕ, ◌+◌, ◌-◌, ◌<◌, ◌∙◌, ◌≡◌, ◌≢◌, ◌≤◌, State, Progress}
use Rattle.ed_laws.proofs.Kit.{progress, state_after, least_below, end_at, EndsAfter, run_end, run_orders, ran_ends}
use Rattle.ed_laws.proofs.Kit.{is_some, first_once, first_within, ne_eqb}

-- ---- whatever the limits, the resumes and the papers

module _ (limit resumes room : ℕ) (limit_too resumes_too room_too : ℕ) (s : State) where
  abbrev pub before : ℕ
  before = run_orders limit resumes room s

  abbrev pub after : ℕ
  after = run_orders limit_too resumes_too room_too s

  -- as long as the one hasn't ended, the other hasn't either
  abbrev pub GoesOnToo : Type 0
  GoesOnToo = (j : ℕ) → j < before → end_at limit resumes room j (progress j s) ≡ None
      → end_at limit_too resumes_too room_too j (progress j s) ≡ None

  -- and if it ends after these orders, the other does
  abbrev pub EndsToo : Type 0
  EndsToo = (e : Ending) → (run_end limit resumes room s).ending ≡ e
      → end_at limit resumes room before (progress before s) ≡ Some e
      → end_at limit_too resumes_too room_too before (progress before s) ≡ Some e

  module _ (on : GoesOnToo) where
    pub no_sooner : before ≤ after
    no_sooner =
        first_within before after (λ j less. on j less ((ran_ends limit resumes room s).first j less))
        (ap is_some (ran_ends limit_too resumes_too room_too s).now)

    pub codes_begin : StartsWith (run_end limit_too resumes_too room_too s).codes (run_end limit resumes room s).codes
    unfolding run_end
    codes_begin =
        let rest = progress (after - before) (state_after before s) in
        let whole : before + (after - before) ≡ after = omega (arith, no_sooner) in (
          rest.codes,
          ap (λ n. (progress n s).codes) (sym whole)
              ∙ ap (λ (p : Progress). p.codes) (past_sum before (after - before) s),
        )

    pub record SameRun : Type 0 where
      pub orders : after ≡ before
      pub run : run_end limit_too resumes_too room_too s ≡ run_end limit resumes room s

    pub same_run : EndsToo → SameRun
    unfolding run_end
    same_run ends =
        let one = ran_ends limit resumes room s in
        let there : EndsAfter limit_too resumes_too room_too s before (run_end limit resumes room s).ending = record {
          now = ends (run_end limit resumes room s).ending refl one.now;
          first = λ j less. on j less (one.first j less);
        } in
        record {
          orders = (first_once (ran_ends limit_too resumes_too room_too s) there).0;
          run = ran_is limit_too resumes_too room_too before s _ there;
        }

-- ---- more resumes

module _ (limit resumes more room : ℕ) (s : State) (few : resumes ≤ more) where
  pub goes_on : GoesOnToo limit resumes room limit more room s
  goes_on j less = search rules

  ends_so : (run_end limit resumes room s).ending ≢ Stopped → EndsToo limit resumes room limit more room s
  ends_so other e is = search rules

  pub resumed_begins : StartsWith (run_end limit more room s).codes (run_end limit resumes room s).codes
  resumed_begins = codes_begin limit resumes room limit more room s goes_on

  pub resumed_later : run_orders limit resumes room s ≤ run_orders limit more room s
  resumed_later = no_sooner limit resumes room limit more room s goes_on

  pub resumed_same : (run_end limit resumes room s).ending ≢ Stopped
      → SameRun limit resumes room limit more room s goes_on
  resumed_same other = same_run limit resumes room limit more room s goes_on (ends_so other)

-- ---- a greater limit

-- on two papers that are both full or both not full after each number of orders below the lower limit
module _ (low high resumes room room_too : ℕ) (s : State) (fits : low ≤ high)
    (papers : (k : ℕ) → k < low
    → nat_le room_too (length (progress k s).codes) ≡ nat_le room (length (progress k s).codes)) where
  most_orders : run_orders low resumes room s ≤ low
  most_orders = least_below _ low

  -- there the limits make no difference
  same_end : (k : ℕ) → k < low
      → end_at high resumes room_too k (progress k s) ≡ end_at low resumes room k (progress k s)
  same_end k less =
      rw (ne_eqb k low (omega (arith, less)), ne_eqb k high (omega (arith, less, fits)), papers k less) refl

  pub limit_on : GoesOnToo low resumes room high resumes room_too s
  limit_on j less h = same_end j (omega (arith, less, most_orders)) ∙ h

  limit_so : (run_end low resumes room s).ending ≢ Limit → EndsToo low resumes room high resumes room_too s
  limit_so other e is h = search (rules, same_end, most_orders)

  pub limit_begins : StartsWith (run_end high resumes room_too s).codes (run_end low resumes room s).codes
  limit_begins = codes_begin low resumes room high resumes room_too s limit_on

  pub limit_later : run_orders low resumes room s ≤ run_orders high resumes room_too s
  limit_later = no_sooner low resumes room high resumes room_too s limit_on

  pub limit_same : (run_end low resumes room s).ending ≢ Limit
      → SameRun low resumes room high resumes room_too s limit_on
  limit_same other = same_run low resumes room high resumes room_too s limit_on (limit_so other)
