-- A run whose first orders neither print nor stop is the run from the state that they lead to.
use Rattle.ed_run.proofs.Kit.{ap, arith, false, None, refl, suc, ℕ, ◌+◌, ◌-◌, ◌<◌, ◌∙◌, ◌≡◌, ◌≤◌, nat_tests, State}
use Rattle.ed_run.proofs.Kit.{progress, state_after, AllWent, end_at, run_end, run_orders}
use Rattle.std.proofs.Common.{zero, nat_eq, nat_lt}
use Rattle.std.proofs.lemmas.Bool.{ne_eqb}
use Rattle.ed_machine.specs.Steps.{next_progress}
use Rattle.ed_machine.proofs.LeastNumbers.{first_later}
use Rattle.ed_machine.proofs.Steps.{quiet_past}
use Rattle.ed_run.proofs.Ends.{ran_ends, ran_is}

-- orders after those are the orders from where those led
pub past_on : (j k : ℕ) (s : State) → AllWent k s → progress (k + j) s ≡ progress j (state_after k s)
unfolding progress
past_on zero k s h = let e : k + 0 ≡ k = omega arith in ap (λ x. progress x s) e ∙ quiet_past k s h
past_on (suc j) k s h = let e : k + suc j ≡ suc (k + j) = omega arith in ap (λ x. progress x s) e
    ∙ ap next_progress (past_on j k s h)

eq_shift : (k j limit : ℕ) → k ≤ limit → nat_eq (k + j) limit ≡ nat_eq j (limit - k)
eq_shift k j limit h = grind (arith, nat_tests)

none_less : (n : ℕ) → nat_lt n 0 ≡ false
none_less n = grind (arith, nat_tests)

-- the run from the state after them
pub ran_later : (limit resumes room k : ℕ) (s : State) → AllWent k s → k ≤ limit
    → run_end limit resumes room s ≡ run_end (limit - k) resumes room (state_after k s)
unfolding run_end
ran_later limit resumes room k s h fits =
    let t = state_after k s in
    let m = run_orders (limit - k) resumes room t in
    let same = λ (j : ℕ). past_on j k s h in
    let none : (j : ℕ) → j < k → end_at limit resumes room j (progress j s) ≡ None = λ j l.
    let went = h j l in
    rw (quiet_past j s (λ i b. h i (omega arith)), none_less resumes, ne_eqb j limit (omega arith), went) refl in
    let at : (j : ℕ) → j ≤ m → end_at limit resumes room (k + j) (progress (k + j) s)
    ≡ end_at (limit - k) resumes room j (progress j t) =
    λ j l. rw (same j, eq_shift k j limit fits) refl in
    ran_is limit resumes room (k + m) s (run_end (limit - k) resumes room t).ending
    (first_later none at (ran_ends (limit - k) resumes room t))
    ∙ (λ i. record {
      ending = (run_end (limit - k) resumes room t).ending;
      state = (same m i).state;
      codes = (same m i).codes;
    })
