-- Where orders lead that neither stop the machine nor are blocked: what a path says of the machine.
use Rattle.ed_machine.proofs.Names.{rules, inl, inr, List, subst, suc, zero, ◌++◌, cases_lt, function_of, ap, arith}
use Rattle.ed_machine.proofs.Names.{Bool, false, refl, true, ℕ, ◌+◌, ◌<◌, ◌∙◌, ◌≡◌, kind_of_function, next_word}
use Rattle.ed_machine.proofs.Names.{obey_word, step, State, AreObeyed, is_obeyed, progress, Progress, state_after}
use Rattle.ed_machine.proofs.Names.{stops_of, Turn, Printed, Went}
use Rattle.ed_machine.proofs.Steps.{after_sum, each_sum, past_sum}

-- whether a turn neither stops the machine nor is blocked
abbrev pub goes_on : Turn → Bool
goes_on Went = true
goes_on (Printed code) = true
goes_on turn = false

-- k orders lead from s to t and print the codes, and none of them stops the machine or is blocked
pub record Leads (k : ℕ) (s : State) (codes : List ℕ) (t : State) : Type 0 where
  pub state_is : state_after k s ≡ t
  pub codes_are : (progress k s).codes ≡ codes
  pub goes : (j : ℕ) → j < k → goes_on (step (state_after j s)).turn ≡ true

-- a turn that goes on is an order obeyed, and not a stop
pub obeyed_of : (turn : Turn) → goes_on turn ≡ true → is_obeyed turn ≡ true
obeyed_of turn e = search rules

-- such orders are obeyed
pub AreObeyed-leads : {k : ℕ} {s t : State} {codes : List ℕ} → Leads k s codes t → AreObeyed k s
AreObeyed-leads o j l = obeyed_of _ (o.goes j l)

-- and none of them stops the machine
pub no_stops : (k : ℕ) (s : State) → ((j : ℕ) → j < k → goes_on (step (state_after j s)).turn ≡ true)
    → (progress k s).stops ≡ 0
unfolding progress
no_stops zero s goes = refl
no_stops (suc k) s goes = search (rules, (no_stops k s (λ j l. goes j (omega arith))))

-- and orders that are obeyed, none of which stops the machine, go on
goes_of : (turn : Turn) → is_obeyed turn ≡ true → stops_of turn ≡ 0 → goes_on turn ≡ true
goes_of turn o e = search rules

pub all_go : (k : ℕ) (s : State) → AreObeyed k s → (progress k s).stops ≡ 0 → (j : ℕ) → j < k
    → goes_on (step (state_after j s)).turn ≡ true
unfolding progress
all_go zero s free none j l = absurd (omega arith)
all_go (suc k) s free none j l =
    elim (cases_lt j k) [
      | inl below ↦ all_go k s (λ i m. free i (omega arith)) (omega (arith, none)) j below
      | inr here ↦
          let e : k ≡ j = omega arith in
          subst (λ i. goes_on (step (state_after i s)).turn ≡ true) e
          (goes_of (step (state_after k s)).turn (free k (omega arith)) (omega (arith, none)))
    ]

-- the first of them is the order that the next word is
pub first_order : (s : State) (word : ℕ) → next_word s ≡ word
    → state_after 1 s ≡ (obey_word (kind_of_function (function_of word)) word s).state
unfolding progress step
first_order s word is = ap (λ w. (obey_word (kind_of_function (function_of w)) w s).state) is

-- such orders after others
pub Leads-append : {a b : ℕ} {s t u : State} {cs ds : List ℕ} → Leads a s cs t → Leads b t ds u
    → Leads (a + b) s (cs ++ ds) u
Leads-append {a} {b} {s} {t} {u} {cs} {ds} first second = record {
  state_is = after_sum a b s ∙ ap (state_after b) first.state_is ∙ second.state_is;
  codes_are = ap (λ (p : Progress). p.codes) (past_sum a b s)
      ∙ (λ i. first.codes_are i ++ (progress b (first.state_is i)).codes)
      ∙ ap (λ x. cs ++ x) second.codes_are;
  goes = each_sum (λ (x : State). goes_on (step x).turn ≡ true) a b s first.goes
      (λ j l. ap (λ (x : State). goes_on (step (state_after j x)).turn) first.state_is ∙ second.goes j l);
}
