-- Where the run from the state of a picture ends, and that continuing twice is continuing once.
use Rattle.ed_page.proofs.Kit.{common_steps, rules, ne_eqb, Settings, length-append, le-ltb, run1_of, ap, arith, length}
use Rattle.ed_page.proofs.Kit.{List, nat_eq, nat_le, nat_lt, None, refl, sym, ℕ, ◌+◌, ◌-◌, ◌<◌, ◌∙◌, ◌≡◌, ◌≤◌, step}
use Rattle.ed_page.proofs.Kit.{State, progress, state_after, run_end, run_orders, first_state, first_state1, paper_room}
use Rattle.ed_page.proofs.Kit.{run_of}
use Rattle.ed_headline.proofs.Kit.{nat_tests, Progress, end_at, end_by, ran_ends}
use Rattle.ed_machine.proofs.LeastNumbers.{first_later}
use Rattle.ed_machine.proofs.Steps.{after_sum, no_step, past_sum}
use Rattle.ed_run.proofs.Ends.{ran_is}
use Rattle.ed_page.specs.Going.{GoingLaw, run_following}

-- if a run goes on, the next order doesn't end it
next_open : (limit resumes room k : ℕ) (p : Progress) → end_at limit resumes room k p ≡ None
    → end_by (step p.state).turn (nat_le room (length p.codes)) ≡ None
next_open limit resumes room k p = search rules

-- the number of stops never decreases
more_stops : (j k : ℕ) (s : State) → j ≤ k → (progress j s).stops ≤ (progress k s).stops
more_stops j k s below = grind (arith, common_steps, (past_sum j (k - j) s))

-- the tests of an end, seen from later
later_stops : (a b c : ℕ) → nat_lt (a + b) (a + c) ≡ nat_lt b c
later_stops a b c = grind (arith, nat_tests)

later_limit : (k m n : ℕ) → nat_eq (k + m) (k + n) ≡ nat_eq m n
later_limit k m n = grind (arith, nat_tests)

later_room : (a b c : ℕ) → nat_le a (b + c) ≡ nat_le (a - b) c
later_room a b c = grind (arith, nat_tests)

-- continuing twice is continuing once
goes_on : (limit resumes room orders more : ℕ) (s : State)
    → let k = run_orders limit resumes room s in
    let first = run_end limit resumes room s in
    run_end (k + orders) ((progress k s).stops + more) room s
    ≡ run_following (progress k s) (run_end orders more (room - length first.codes) first.state)
unfolding run_end
goes_on limit resumes room orders more s =
    let k = run_orders limit resumes room s in
    let p = progress k s in
    let left = room - length p.codes in
    let m = run_orders orders more left p.state in
    let none : (j : ℕ) → j < k → end_at (k + orders) (p.stops + more) room j (progress j s) ≡ None = λ j l.
    let open_at = next_open limit resumes room j (progress j s) ((ran_ends limit resumes room s).first j l) in
    let few = more_stops j k s (omega arith) in
    rw (
      le-ltb (p.stops + more) (progress j s).stops (omega (arith, few)),
      ne_eqb j (k + orders) (omega (arith, l)),
      open_at,
    ) refl in
    let at : (j : ℕ) → j ≤ m → end_at (k + orders) (p.stops + more) room (k + j) (progress (k + j) s)
    ≡ end_at orders more left j (progress j p.state) = λ j l.
    let q = progress j p.state in
    rw (
      past_sum k j s,
      later_stops p.stops more q.stops,
      later_limit k j orders,
      length-append p.codes q.codes,
      later_room room (length p.codes) (length q.codes),
    ) refl in
    ran_is (k + orders) (p.stops + more) room (k + m) s (run_end orders more left p.state).ending
    (first_later none at (ran_ends orders more left p.state))
    ∙ (λ i. record {
      ending = (run_end orders more left p.state).ending;
      state = (past_sum k m s i).state;
      codes = (past_sum k m s i).codes;
    })

-- a run from Start is one on the way
pub from_start : (s : Settings) (codes : List ℕ)
    → run_of s codes ≡ run_end s.limit s.resumes paper_room (state_after 0 (first_state s.size codes))
from_start s codes = ap (run_end s.limit s.resumes paper_room) (no_step (first_state s.size codes))

pub from_start1 : (s : Settings) (codes : List ℕ)
    → run1_of s codes ≡ run_end s.limit s.resumes paper_room (state_after 0 (first_state1 codes))
from_start1 s codes = ap (run_end s.limit s.resumes paper_room) (no_step (first_state1 codes))

-- and where a run ends is on the way
pub run_end-stays : (first : State) (k limit resumes room : ℕ)
    → (j : ℕ) × ((run_end limit resumes room (state_after k first)).state ≡ state_after (k + j) first)
unfolding run_end
run_end-stays first k limit resumes room =
    let j = run_orders limit resumes room (state_after k first) in (j, sym (after_sum k j first))

pub going_law : GoingLaw
going_law = record { goes_on = goes_on; from_start = from_start; from_start1 = from_start1; stays = run_end-stays }
