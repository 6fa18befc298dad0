-- A run that stays in the first 512 locations is the same on both sizes of the store.
use Rattle.ed_laws.proofs.Kit.{Size, Full, Ending, RunEnd, Settings, ran_ends, step, State, progress, Progress}
use Rattle.ed_laws.proofs.Kit.{state_after, end_at, end_by, EndsAfter, run_end, run_orders, first_state, Text, tape, []}
use Rattle.ed_laws.proofs.Kit.{ap, arith, Bool, false, List, nat_lt, Option, refl, suc, true, ℕ, ◌+◌, ◌<◌, ◌∙◌, ◌∷◌}
use Rattle.ed_laws.proofs.Kit.{◌≡◌, ◌≤◌, nat_tests, ending_line, paper_room, ran_outcome, with_post_mortem}
use Rattle.ed_laws.proofs.Kit.{entered_before, zero, function_of, kind_of_function, next_word, obey_word, Obeyed, Kind}
use Rattle.ed_laws.proofs.Kit.{ran_is, rules, common_steps, post_mortem_codes}
use Rattle.ed_words.specs.declared.size.Size.TheVariants.{Small}
use Rattle.ed_run.specs.declared.settings.Window.{Window}
use Rattle.ed_machine.proofs.Names.{address_of, jump_order, place_of, row_order}
use Rattle.ed_machine.specs.Steps.{next_progress}
use Rattle.ed_headline.specs.BothSizes.{EachSize, NamesBelow, RunStaysBelow, StaysBelow}

-- ---- one order

abbrev sized : Size → State → State
sized z s = record s { size = z }

abbrev obeyed_sized : Size → Obeyed → Obeyed
obeyed_sized z o = record o { state = sized z o.state }

is_below : (n : ℕ) → n < 512 → nat_lt n 512 ≡ true
is_below n l = grind (arith, nat_tests)

module _ (z : Size) (w : ℕ) (s : State) (next : s.counter < 511) where
  after_is : nat_lt (s.counter + 1) 512 ≡ true
  after_is = is_below (s.counter + 1) (omega (arith, next))

  jumps_same : (b : Bool) → address_of w < 512
      → jump_order b (place_of (sized z s) w) (sized z s) ≡ obeyed_sized z (jump_order b (place_of s w) s)
  jumps_same true l = let at = is_below (address_of w) l in rw at refl
  jumps_same false l = rw after_is refl

  row_same : (rows : List ℕ) → address_of w < 512
      → row_order rows w (sized z s) ≡ obeyed_sized z (row_order rows w s)
  row_same [] l = refl
  row_same (row ∷ rows) l = let at = is_below (address_of w) l in rw (at, after_is) refl

  word_same : (k : Option Kind) → NamesBelow k w → obey_word k w (sized z s) ≡ obeyed_sized z (obey_word k w s)
  word_same k l = grind (arith, common_steps, is_below, after_is, jumps_same, row_same)

step_same : (z : Size) (s : State) → StaysBelow s → step (sized z s) ≡ obeyed_sized z (step s)
unfolding step
step_same z s low =
    word_same z (next_word s) s low.next (kind_of_function (function_of (next_word s))) low.named

-- ---- how the next order ends a run, whatever it names

module _ (z : Size) (w : ℕ) (s : State) (full : Bool) where
  word_ends : (k : Option Kind) → end_by (obey_word k w (sized z s)).turn full ≡ end_by (obey_word k w s).turn full
  word_ends k = search rules

step_ends : (z : Size) (s : State) (full : Bool) → end_by (step (sized z s)).turn full ≡ end_by (step s).turn full
unfolding step
step_ends z s full = word_ends z (next_word s) s full (kind_of_function (function_of (next_word s)))

-- ---- many orders

abbrev past_sized : Size → Progress → Progress
past_sized z p = record p { state = sized z p.state }

next_same : (z : Size) (p : Progress) → StaysBelow p.state
    → next_progress (past_sized z p) ≡ past_sized z (next_progress p)
next_same z p low = search (rules, step_same)

past_same : (z : Size) (k : ℕ) (s : State) → ((j : ℕ) → j < k → StaysBelow (state_after j s))
    → progress k (sized z s) ≡ past_sized z (progress k s)
unfolding progress
past_same z zero s low = refl
past_same z (suc k) s low =
    ap next_progress (past_same z k s (λ j l. low j (omega (arith, l))))
    ∙ next_same z (progress k s) (low k (omega arith))

end_same : (z : Size) (limit resumes room k : ℕ) (p : Progress)
    → end_at limit resumes room k (past_sized z p) ≡ end_at limit resumes room k p
end_same z limit resumes room k p = search (rules, step_ends)

-- ---- a run

abbrev end_sized : Size → RunEnd → RunEnd
end_sized z r = record r { state = sized z r.state }

run_same : (z : Size) (limit resumes room : ℕ) (s : State)
    → ((j : ℕ) → j < run_orders limit resumes room s → StaysBelow (state_after j s))
    → run_end limit resumes room (sized z s) ≡ end_sized z (run_end limit resumes room s)
unfolding run_end
run_same z limit resumes room s low =
    let k = run_orders limit resumes room s in
    let ends = ran_ends limit resumes room s in
    let at : (j : ℕ) → j ≤ k
    → end_at limit resumes room j (progress j (sized z s)) ≡ end_at limit resumes room j (progress j s) =
    λ j l. ap (end_at limit resumes room j) (past_same z j s (λ i m. low i (omega (arith, l, m))))
    ∙ end_same z limit resumes room j (progress j s) in
    let there : EndsAfter limit resumes room (sized z s) k (run_end limit resumes room s).ending = record {
      now = at k (omega arith) ∙ ends.now;
      first = λ j l. at j (omega (arith, l)) ∙ ends.first j l;
    } in
    ran_is limit resumes room k (sized z s) _ there
    ∙ ap (λ (p : Progress). record {
      ending = (run_end limit resumes room s).ending;
      state = p.state;
      codes = p.codes;
    }) (past_same z k s low)

-- ---- outcomes

line_same : (z : Size) (e : Ending) (s : State) → ending_line e (sized z s) ≡ ending_line e s
line_same z e s = search rules

codes_same : (z : Size) (window : Option Window) (s : State)
    → post_mortem_codes window (sized z s) ≡ post_mortem_codes window s
codes_same z window s = search rules

-- an outcome of a run is the same for its end on a store of another size
module _ (z : Size) (s : Settings) (before : State → Text) (same : (t : State) → before (sized z t) ≡ before t) where
  outcome_same : (r : RunEnd) → ran_outcome (before (sized z r.state)) (with_post_mortem s.post_mortem (end_sized z r))
      ≡ ran_outcome (before r.state) (with_post_mortem s.post_mortem r)
  outcome_same r = search (rules, codes_same, line_same)

  run_outcome_same : (codes : List ℕ) → RunStaysBelow s codes → first_state z codes ≡ sized z (first_state Small codes)
      → (λ (r : RunEnd). ran_outcome (before r.state) (with_post_mortem s.post_mortem r))
      (run_end s.limit s.resumes paper_room (first_state z codes))
      ≡ (λ (r : RunEnd). ran_outcome (before r.state) (with_post_mortem s.post_mortem r))
      (run_end s.limit s.resumes paper_room (first_state Small codes))
  run_outcome_same codes low first = search (rules, run_same, outcome_same)

first_same : (z : Size) (codes : List ℕ) → first_state z codes ≡ sized z (first_state Small codes)
unfolding first_state
first_same z codes = refl

pub each_size : EachSize
each_size = record {
  tapes = λ s codes low. run_outcome_same Full s (λ t. []) (λ t. refl) codes low (first_same Full codes);
  sources = λ s lines low.
      run_outcome_same Full s (entered_before lines) (λ t. refl) (tape lines) low (first_same Full (tape lines));
}
