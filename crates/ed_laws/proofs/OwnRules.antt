-- A run in which each step does the same by another rule is the same by it.
use Rattle.ed_laws.proofs.Kit.{common_steps, none-some, paper_from, Shift, Kind, Limit, Stopped, Went, Settings}
use Rattle.ed_laws.proofs.Kit.{byte_of, Obeyed, [], ap, arith, Bool, false, if◌then◌else◌, inl, inr, length, List}
use Rattle.ed_laws.proofs.Kit.{nat_eq, nat_le, nat_lt, None, Option, refl, rules, Some, suc, sym, true, ℕ, ◌++◌, ◌+◌}
use Rattle.ed_laws.proofs.Kit.{◌<◌, ◌∙◌, ◌∷◌, ◌≡◌, ◌≤◌, ◌⊎◌, step, State, Progress, progress, state_after, end_at}
use Rattle.ed_laws.proofs.Kit.{end_by, run_end, run_orders, ran_ends, first_state, paper_room, run_of, is_some, ◌==◌}
use Rattle.ed_laws.proofs.Kit.{trace_to, zero, stops_of, ◌||◌, kind_of_function, obey_word, codes_of, letters_in}
use Rattle.ed_laws.proofs.Kit.{first_once}
use Rattle.std.specs.List.{list_any}
use Rattle.ed_orders.specs.declared.kind.Kind.TheVariants.{F, X}
use Rattle.ed_machine.proofs.LeastNumbers.{first_found}
use Rattle.ed_laws.specs.OwnRules.{EachOwnRuleShows, end_with, is_own_order, is_own_letter, run_with, progress_with}
use Rattle.ed_laws.specs.OwnRules.{run_letters}
use Rattle.ed_laws.proofs.LetterTests.{letter_says}
use Rattle.ed_laws.proofs.MoreResumes.{letters_begin}
use Rattle.ed_laws.proofs.TraceAccounts.{more_letters, next_letter}

-- ---- orders that do the same

-- a progress after one more step that does this
abbrev next_by : Progress → Obeyed → Progress
next_by p o = record { state = o.state; codes = p.codes ++ codes_of o.turn; stops = p.stops + stops_of o.turn }

orders_same : (other : State → Obeyed) (k : ℕ) (s : State)
    → ((j : ℕ) → j < k → other (state_after j s) ≡ step (state_after j s)) → progress_with other k s ≡ progress k s
unfolding progress_with progress
orders_same other zero s agrees = refl
orders_same other (suc k) s agrees =
    ap (λ (p : Progress). next_by p (other p.state)) (orders_same other k s (λ j less. agrees j (omega (arith, less))))
    ∙ ap (next_by (progress k s)) (agrees k (omega arith))

-- ---- the run

-- either a step does the same at a state, or the order there wouldn't end a run
abbrev IsNoEnd : (State → Obeyed) → State → Type 0
IsNoEnd other s = (other s ≡ step s) ⊎ ((full : Bool) → end_by (step s).turn full ≡ None)

module _ (r : State → Obeyed) (limit resumes room : ℕ) (s : State)
    (never : (j : ℕ) → j < run_orders limit resumes room s → r (state_after j s) ≡ step (state_after j s))
    (at_end : IsNoEnd r (state_after (run_orders limit resumes room s) s)) where
  same : (j : ℕ) → j ≤ run_orders limit resumes room s → progress_with r j s ≡ progress j s
  same j few = orders_same r j s (λ i less. never i (omega (arith, less, few)))

  -- at a state where a step does the same the run ends as by the order table, or goes on so
  ends_same : (k : ℕ) → r (state_after k s) ≡ step (state_after k s)
      → end_with r limit resumes room k (progress k s) ≡ end_at limit resumes room k (progress k s)
  ends_same k not = search rules

  none_before : (j : ℕ) → j < run_orders limit resumes room s
      → end_with r limit resumes room j (progress_with r j s) ≡ None
  none_before j less =
      ap (end_with r limit resumes room j) (same j (omega (arith, less)))
      ∙ ends_same j (never j less)
      ∙ (ran_ends limit resumes room s).first j less

  some_there : end_with r limit resumes room (run_orders limit resumes room s)
      (progress_with r (run_orders limit resumes room s) s)
      ≡ Some (run_end limit resumes room s).ending
  some_there =
      ap (end_with r limit resumes room (run_orders limit resumes room s))
      (same (run_orders limit resumes room s) (omega arith))
      ∙ by_end at_end
    where
      n : ℕ
      n = run_orders limit resumes room s

      by_tests : (b c : Bool) → ((full : Bool) → end_by (step (state_after n s)).turn full ≡ None)
          → (if b then Some Stopped else if c then Some Limit
          else end_by (step (state_after n s)).turn (nat_le room (length (progress n s).codes)))
          ≡ Some (run_end limit resumes room s).ending
          → (if b then Some Stopped else if c then Some Limit
          else end_by (r (state_after n s)).turn (nat_le room (length (progress n s).codes)))
          ≡ Some (run_end limit resumes room s).ending
      by_tests true c none h = h
      by_tests false true none h = h
      by_tests false false none h = absurd (none-some _ (sym (none _) ∙ h))

      by_end : IsNoEnd r (state_after n s) → end_with r limit resumes room n (progress n s)
          ≡ Some (run_end limit resumes room s).ending
      by_end (inl not) = ends_same n not ∙ (ran_ends limit resumes room s).now
      by_end (inr none) =
          by_tests (nat_lt resumes (progress n s).stops) (nat_eq n limit) none (ran_ends limit resumes room s).now

  ends_at : (p : Progress) → is_some (end_with r limit resumes room limit p) ≡ true
  ends_at p = search rules

  pub run_is : run_with r limit resumes room s ≡ run_end limit resumes room s
  unfolding run_with run_end
  run_is =
      let one = first_once {test = λ j. end_with r limit resumes room j (progress_with r j s)}
      (first_found limit Limit (ends_at (progress_with r limit s)))
      (record { now = some_there; first = none_before }) in
      (λ i. record {
        ending = one.1 i;
        state = (progress_with r (one.0 i) s).state;
        codes = (progress_with r (one.0 i) s).codes;
      })
      ∙ ap (λ (p : Progress). record {
        ending = (run_end limit resumes room s).ending;
        state = p.state;
        codes = p.codes;
      }) (same (run_orders limit resumes room s) (omega arith))

runs_same : (r : State → Obeyed) (limit resumes room : ℕ) (s : State)
    → ((j : ℕ) → j ≤ run_orders limit resumes room s → r (state_after j s) ≡ step (state_after j s))
    → run_with r limit resumes room s ≡ run_end limit resumes room s
runs_same r limit resumes room s never =
    run_is r limit resumes room s (λ j less. never j (omega (arith, less))) (inl (never _ (omega arith)))

-- ---- shifts

shifts_same : (before after : Shift) (code : ℕ) (codes : List ℕ) → (code ≡ 11) ⊎ (code ≡ 15)
    → paper_from before (code ∷ codes) ≡ paper_from after (code ∷ codes)
shifts_same before after code codes h = search rules

-- ---- F and X, by the letters of a trace

abbrev is_own_kind : Option Kind → Bool
is_own_kind (Some F) = true
is_own_kind (Some X) = true
is_own_kind kind = false

own_letter : (f : ℕ) → is_own_kind (kind_of_function f) ≡ is_own_letter (byte_of f false)
own_letter = letter_says is_own_kind is_own_letter refl refl

abbrev has_own_letter : List ℕ → Bool
has_own_letter = list_any is_own_letter

any_parts : (xs ys : List ℕ) → has_own_letter (xs ++ ys) ≡ false
    → (has_own_letter xs ≡ false) × (has_own_letter ys ≡ false)
any_parts [] ys h = (refl, h)
any_parts (x ∷ xs) ys h = grind (arith, common_steps)

none_in_one : (byte : ℕ) → has_own_letter (byte ∷ []) ≡ false → (byte == 70 || byte == 88) ≡ false
none_in_one byte = search rules

-- none of the orders of a trace without such a letter is F or X
never_own : (k : ℕ) (s : State) → has_own_letter (letters_in (trace_to k s)) ≡ false → (j : ℕ) → j < k
    → is_own_order (state_after j s) ≡ false
never_own k s none j less =
    let start = letters_begin (suc j) k s (omega arith) in
    let first = (any_parts (letters_in (trace_to (suc j) s)) start.0
    (ap has_own_letter (sym start.1) ∙ none)).0 in
    let letter = (any_parts (letters_in (trace_to j s)) (next_letter (state_after j s) ∷ [])
    (ap has_own_letter (sym (more_letters j s)) ∙ first)).1 in
    none_in_one (next_letter (state_after j s)) letter

-- an order F or X ends no run
own_goes : (k : Option Kind) (w : ℕ) (s : State) → is_own_kind k ≡ true → (obey_word k w s).turn ≡ Went
own_goes k w s h = search rules

own_turn : (s : State) → is_own_order s ≡ true → (step s).turn ≡ Went
unfolding step
own_turn s own = search (rules, own_goes, own_letter)

no_end : (other : State → Obeyed) → ((t : State) → is_own_order t ≡ false → other t ≡ step t) → (s : State)
    → IsNoEnd other s
no_end other agrees s = search (rules, own_turn)

tapes : (other : State → Obeyed) (s : Settings) (rows : List ℕ)
    → ((t : State) → is_own_order t ≡ false → other t ≡ step t)
    → has_own_letter (run_letters s rows) ≡ false
    → run_with other s.limit s.resumes paper_room (first_state s.size rows) ≡ run_of s rows
tapes other s rows agrees none = search (rules, run_is, never_own, no_end)

pub each_own_rule_shows : EachOwnRuleShows
each_own_rule_shows = record { orders = orders_same; runs = runs_same; tapes = tapes; shifts = shifts_same }
