-- A run doesn't depend on the count of orders: from a state with a greater count it is the same, with a greater count.
use Rattle.ed_laws.proofs.Kit.{Kind, Obeyed, Option, refl, rules, suc, ℕ, ◌+◌, ◌≡◌, step, State, Progress, progress}
use Rattle.ed_laws.proofs.Kit.{end_at, run_end, zero, function_of, kind_of_function, next_word, obey_word, end_later}

-- a state with k more orders counted
abbrev pub counted : ℕ → State → State
counted k s = record s { orders = s.orders + k }

abbrev obeyed_later : ℕ → Obeyed → Obeyed
obeyed_later k o = record o { state = counted k o.state }

abbrev progress_later : ℕ → Progress → Progress
progress_later k p = record p { state = counted k p.state }

module _ (k w : ℕ) (s : State) where
  word_same : (kind : Option Kind) → obey_word kind w (counted k s) ≡ obeyed_later k (obey_word kind w s)
  word_same kind = search rules

step_same : (k : ℕ) (s : State) → step (counted k s) ≡ obeyed_later k (step s)
unfolding step
step_same k s = word_same k (next_word s) s (kind_of_function (function_of (next_word s)))

-- orders from there
pub progress_same : (k j : ℕ) (s : State) → progress j (counted k s) ≡ progress_later k (progress j s)
unfolding progress
progress_same k zero s = refl
progress_same k (suc j) s = search (rules, step_same, progress_same k j s)

-- an end comes after as many of them
same_end : (limit resumes room k j : ℕ) (p : Progress)
    → end_at limit resumes room j (progress_later k p) ≡ end_at limit resumes room j p
same_end limit resumes room k j p = search (rules, step_same)

-- and the run
pub run_same : (limit resumes room k : ℕ) (s : State)
    → run_end limit resumes room (counted k s) ≡ end_later k (run_end limit resumes room s)
unfolding run_end
run_same limit resumes room k s = search (rules, progress_same, same_end)
