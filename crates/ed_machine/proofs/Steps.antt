-- Where steps lead: none, one more, and some after others.
use Rattle.ed_machine.proofs.Names.{common_steps, add-one, append_assoc, length-append, rules, suc, zero, ◌++◌, ◌-◌, []}
use Rattle.ed_machine.proofs.Names.{ap, arith, length, refl, true, ℕ, ◌+◌, ◌<◌, ◌∙◌, ◌≡◌, ◌≤◌, step, State, AreObeyed}
use Rattle.ed_machine.proofs.Names.{codes_of, is_obeyed, progress, Progress, state_after, stops_of, Turn, Went}
use Rattle.ed_machine.specs.Steps.{next_progress}

-- ---- none, and one more

pub no_step : (s : State) → s ≡ state_after 0 s
unfolding progress
no_step s = refl

pub past_next : (k : ℕ) (s : State) → progress (k + 1) s ≡ next_progress (progress k s)
unfolding progress
past_next k s = rw add-one refl

pub next_state : (k : ℕ) (s : State) {m n : State} → m ≡ state_after k s → n ≡ (step m).state
    → n ≡ state_after (k + 1) s
next_state k s at to = search (rules, past_next)

pub next_stops : (k : ℕ) (s : State)
    → (progress (k + 1) s).stops ≡ (progress k s).stops + stops_of (step (state_after k s)).turn
next_stops k s = ap (λ (p : Progress). p.stops) (past_next k s)

-- ---- some after others

-- what was printed and the stops of both, in the state that the later ones lead to
abbrev pub past_after : Progress → Progress → Progress
past_after p q = record { state = q.state; codes = p.codes ++ q.codes; stops = p.stops + q.stops }

pub past_sum : (a b : ℕ) (s : State) → progress (a + b) s ≡ past_after (progress a s) (progress b (state_after a s))
unfolding progress
past_sum a zero s = search rules
past_sum a (suc b) s =
    let e : a + suc b ≡ suc (a + b) = omega arith in
    let p = progress a s in
    let q = progress b p.state in
    let z : p.stops + q.stops + stops_of (step q.state).turn ≡ p.stops + (q.stops + stops_of (step q.state).turn) =
    omega arith in
    rw e
    (ap next_progress (past_sum a b s)
    ∙ (λ i. record {
      state = (step q.state).state;
      codes = append_assoc p.codes q.codes (codes_of (step q.state).turn) i;
      stops = z i;
    }))

pub after_sum : (a b : ℕ) (s : State) → state_after (a + b) s ≡ state_after b (state_after a s)
after_sum a b s = ap (λ (p : Progress). p.state) (past_sum a b s)

-- what holds of the states before a steps and of those before b more holds before all of them
pub each_sum : (P : State → Type 0) (a b : ℕ) (s : State) → ((j : ℕ) → j < a → P (state_after j s))
    → ((j : ℕ) → j < b → P (state_after j (state_after a s))) → (j : ℕ) → j < a + b → P (state_after j s)
each_sum P a b s first more j h = grind (arith, common_steps, (after_sum a (j - a) s))

-- orders obeyed after orders obeyed
pub free_sum : (a b : ℕ) (s : State) → AreObeyed a s → AreObeyed b (state_after a s) → AreObeyed (a + b) s
free_sum = each_sum (λ (x : State). is_obeyed (step x).turn ≡ true)

-- one more order obeyed after some
pub free_more : (k : ℕ) (s : State) → AreObeyed k s → is_obeyed (step (state_after k s)).turn ≡ true
    → AreObeyed (suc k) s
free_more k s free more j h = search rules

-- ---- what is printed

-- orders that only go on print nothing, and none of them is a stop
pub quiet_past : (k : ℕ) (s : State) → ((j : ℕ) → j < k → (step (state_after j s)).turn ≡ Went)
    → progress k s ≡ record { state = state_after k s; codes = []; stops = 0 }
unfolding progress
quiet_past zero s went = refl
quiet_past (suc k) s went = search (rules, (quiet_past k s (λ j l. went j (omega arith))))

pub quiet_codes : (k : ℕ) (s : State) → ((j : ℕ) → j < k → (step (state_after j s)).turn ≡ Went)
    → (progress k s).codes ≡ []
quiet_codes k s went = ap (λ (p : Progress). p.codes) (quiet_past k s went)

pub quiet_stops : (k : ℕ) (s : State) → ((j : ℕ) → j < k → (step (state_after j s)).turn ≡ Went)
    → (progress k s).stops ≡ 0
quiet_stops k s went = ap (λ (p : Progress). p.stops) (quiet_past k s went)

pub one_code : (t : Turn) → length (codes_of t) ≤ 1
one_code turn = search rules

-- no more codes than steps
pub few_codes : (k : ℕ) (s : State) → length (progress k s).codes ≤ k
unfolding progress
few_codes zero s = omega arith
few_codes (suc k) s = search (rules, length-append, (few_codes k s))
