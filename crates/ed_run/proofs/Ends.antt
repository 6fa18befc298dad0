-- A run ends after the least number of orders at which an end holds, and at no other.
use Rattle.ed_run.proofs.Kit.{nat_le, Sheet, Ending, Limit, Stopped, first_once, length, refl, rules, Some, true, ℕ}
use Rattle.ed_run.proofs.Kit.{◌-◌, ◌<◌, ◌≡◌, ◌≤◌, step, State, progress, Progress, end_at, end_by, EndsAfter, IsRun}
use Rattle.ed_run.proofs.Kit.{run_end, run_orders}
use Rattle.std.proofs.Common.{is_some}
use Rattle.std.proofs.lemmas.Bool.{lt-ltb}
use Rattle.ed_machine.proofs.LeastNumbers.{first_found}
use Rattle.ed_run.specs.Run.{RunLeaves}

-- ---- the three ends

-- with more stops than resumes a run ends as stopped
pub stop_ends : (limit resumes room k : ℕ) (p : Progress) → resumes < p.stops
    → end_at limit resumes room k p ≡ Some Stopped
stop_ends limit resumes room k p many = let a = lt-ltb resumes p.stops many in rw a refl

-- else at the limit
pub limit_ends : (limit resumes room k : ℕ) (p : Progress) → p.stops ≤ resumes → k ≡ limit
    → end_at limit resumes room k p ≡ Some Limit
limit_ends limit resumes room k p few is = search rules

-- else as its next order says
pub next_ends : (limit resumes room k : ℕ) (p : Progress) → p.stops ≤ resumes → k < limit
    → end_at limit resumes room k p ≡ end_by (step p.state).turn (nat_le room (length p.codes))
next_ends limit resumes room k p few below = search rules

-- ---- the end of a run

-- at the limit there is an end
pub ends_at_limit : (limit resumes room : ℕ) (p : Progress) → is_some (end_at limit resumes room limit p) ≡ true
ends_at_limit limit resumes room p = search rules

-- the run as a function ends this way
pub ran_ends : (limit resumes room : ℕ) (s : State)
    → EndsAfter limit resumes room s (run_orders limit resumes room s) (run_end limit resumes room s).ending
unfolding run_end
ran_ends limit resumes room s = first_found limit Limit (ends_at_limit limit resumes room (progress limit s))

-- what a run leaves that ends this way
pub ran_is : (limit resumes room k : ℕ) (s : State) (e : Ending) → EndsAfter limit resumes room s k e
    → run_end limit resumes room s ≡ record { ending = e; state = (progress k s).state; codes = (progress k s).codes }
unfolding run_end
ran_is limit resumes room k s e ends =
    let one = first_once (ran_ends limit resumes room s) ends in
    λ i. record { ending = one.1 i; state = (progress (one.0 i) s).state; codes = (progress (one.0 i) s).codes }

-- what a run leaves is what the function gives
pub run_left : {limit resumes : ℕ} {s : State} {sheet : Sheet} {ending : Ending} {last : State} {full : Sheet}
    → IsRun limit resumes s sheet ending last full
    → RunLeaves (run_end limit resumes (sheet.room - length sheet.codes) s) sheet ending last full
run_left {limit} {resumes} {s} {sheet} {ending} r =
    rw (ran_is limit resumes (sheet.room - length sheet.codes) r.orders s ending r.ends)
    (record { ending_is = refl; state_is = r.state_is; sheet_is = r.sheet_is })
