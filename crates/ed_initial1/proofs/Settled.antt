-- A load whose orders lead to 31 ends there: it ends in no other way.
use Rattle.ed_initial1.proofs.Kit.{Went, ap, arith, ℕ, ◌<◌, ◌∙◌, ◌≡◌, ◌≤◌, Obeyed, step, State, progress, state_after}
use Rattle.ed_initial1.proofs.Kit.{EndsAs1, Loaded1, Entered, rules}
use Rattle.ed_initial.proofs.Runs.{ends_there}
use Rattle.ed_initial1.proofs.Walks.{Reaches}

module _ (s t : State) (k : ℕ) (r : Reaches k s t) where
  abbrev m : ℕ
  m = r.before

  -- each order up to the last one went
  went : (j : ℕ) → j ≤ m → (step (state_after j s)).turn ≡ Went
  went j h = search rules

  pub Entered-settled : (bound : ℕ) → k ≤ bound → (x : Loaded1) → EndsAs1 s bound x → x ≡ Entered k
  Entered-settled bound fits x ends = search (rules, ends_there)

  pub state_after-comes : state_after k s ≡ t
  unfolding progress
  state_after-comes = ap (λ j. state_after j s) r.count ∙ ap (λ (o : Obeyed). o.state) r.last

  pub all_went : (j : ℕ) → j < k → (step (state_after j s)).turn ≡ Went
  all_went j h = went j (omega (arith, r.count))
