-- What k orders of the machine do: where they lead, what they print, and how many of them are stops.
use Rattle.ed_checker.proofs.Kit.{Turn, [], ap, arith, inl, inr, List, refl, rules, subst, sym, true, ℕ, ◌++◌, ◌+◌, ◌-◌}
use Rattle.ed_checker.proofs.Kit.{◌<◌, ◌∙◌, ◌≡◌, ◌≤◌, ◌⊎◌, cases_lt, step, State, codes_of, is_obeyed, progress}
use Rattle.ed_checker.proofs.Kit.{Progress, state_after, stops_of, HasRun}
use Rattle.ed_machine.proofs.Kit.Leads.{Leads, AreObeyed-leads, no_stops}
use Rattle.ed_machine.proofs.Steps.{past_after, past_sum, after_sum}

-- orders after orders
pub HasRun-joined : {a b n l : ℕ} {cs ds : List ℕ} {s m t : State} → HasRun a s cs n m → HasRun b m ds l t
    → HasRun (a + b) s (cs ++ ds) (n + l) t
HasRun-joined {a} {b} {n} {l} {cs} {ds} {s} {m} {t} g h = record {
  is = past_sum a b s
      ∙ ap (λ (p : Progress). past_after p (progress b p.state)) g.is
      ∙ ap (past_after (record { state = m; codes = cs; stops = n })) h.is;
  free = λ j lj. by_place j lj (cases_lt j a);
}
  where
    by_place : (j : ℕ) → j < a + b → (j < a) ⊎ (a ≤ j) → is_obeyed (step (state_after j s)).turn ≡ true
    by_place j lj (inl low) = g.free j low
    by_place j lj (inr high) =
        let e : a + (j - a) ≡ j = omega arith in
        let same : state_after (j - a) m ≡ state_after j s =
        ap (λ (p : Progress). state_after (j - a) p.state) (sym g.is)
        ∙ sym (after_sum a (j - a) s)
        ∙ ap (λ x. state_after x s) e in
        ap (λ (x : State). is_obeyed (step x).turn) (sym same) ∙ h.free (j - a) (omega arith)

pub HasRun-none : (s : State) → HasRun 0 s [] 0 s
unfolding progress
HasRun-none s = record { is = refl; free = λ j h. absurd (omega arith) }

pub HasRun-one : (s t : State) (u : Turn) → step s ≡ record { state = t; turn = u } → is_obeyed u ≡ true
    → HasRun 1 s (codes_of u) (stops_of u) t
unfolding progress
HasRun-one s t u e o = search rules

-- the orders of a path
pub HasRun-along : {k : ℕ} {s t : State} {cs : List ℕ} → Leads k s cs t → HasRun k s cs 0 t
HasRun-along {k} {s} o = search (rules, no_stops, AreObeyed-leads)

pub HasRun-renamed : {k n l : ℕ} {s t : State} {cs ds : List ℕ} → HasRun k s cs n t → cs ≡ ds
    → n ≡ l → HasRun k s ds l t
HasRun-renamed {k} {n} {s = s} {t} {ds = ds} r c e = subst (λ l. HasRun k s ds l t) e
    (subst (λ xs. HasRun k s xs n t) c r)
