-- What `step` reports is what `trace`, `tape` and a post-mortem report after the same number of orders.
use Rattle.ed_laws.proofs.Kit.{range_with_len, filter-append, Size, Limit, counted_after, few_codes, HasRoom, Settings}
use Rattle.ed_laws.proofs.Kit.{ran_is, byte_of, [], ap, append-nil, append_assoc, arith, false, length, List, map, refl}
use Rattle.ed_laws.proofs.Kit.{rules, Some, subst, suc, sym, ℕ, ◌++◌, ◌+◌, ◌-◌, ◌∙◌, ◌∷◌, ◌≡◌, ◌≤◌, Text, State}
use Rattle.ed_laws.proofs.Kit.{progress, state_after, run_end, run_orders, RunEnd, ran_ends, first_state, ending_line}
use Rattle.ed_laws.proofs.Kit.{paper_room, ran_outcome, run_of, with_post_mortem, not, ◌==◌, AreObeyed, first_once}
use Rattle.ed_laws.proofs.Kit.{after_sum, free_sum, functions_after, move_orders, trace_to, move_free, zero}
use Rattle.ed_laws.proofs.Kit.{function_of, next_word, letters_in}
use Rattle.ed_run.proofs.Places.{at_limit}
use Rattle.ed_report.specs.Listings.{listing}
use Rattle.ed_report.specs.Traces.{last_end, letters_from, trace_text, traced_letter}
use Rattle.ed_stepper.specs.Sessions.{Stand, left}
use Rattle.ed_stepper.specs.declared.moves.MoveTarget.TheVariants.{Orders}
use Rattle.ed_stepper.proofs.Stands.{Keeps, left_keeps}
use Rattle.ed_top.specs.Scripts.{stand_on}
use Rattle.ed_laws.specs.Stepped.{EachStepIsRun, StepsAreRun, cut_at, limit_note}
use Rattle.ed_laws.proofs.MoveEndings.{run_ends}

-- ---- a run that is cut off

-- it is in the state after as many orders, each of them obeyed
abbrev limit_run : ℕ → State → RunEnd
limit_run k s = record { ending = Limit; state = state_after k s; codes = (progress k s).codes }

run_cut : (k resumes room : ℕ) (s : State) → HasRoom room k s → (progress k s).stops ≤ resumes
    → (run_orders k resumes room s ≡ k) × (run_end k resumes room s ≡ limit_run k s)
run_cut k resumes room s fits few =
    let ends = at_limit k resumes fits few in
    ((first_once (ran_ends k resumes room s) ends).0, ran_is k resumes room k s Limit ends)

-- ---- the letters of a trace

-- the letters of functions
abbrev pub bare : List ℕ → Text
bare fs = letters_in (map (λ f. byte_of f false) fs)

pub letters_both : (xs ys : Text) → letters_in (xs ++ ys) ≡ letters_in xs ++ letters_in ys
letters_both = filter-append (λ byte. not (byte == 10))

one_letter : (n f : ℕ) → letters_in (traced_letter n f) ≡ letters_in (byte_of f false ∷ [])
one_letter n f = search rules

bare_from : (n : ℕ) (fs : List ℕ) → letters_in (letters_from n fs) ≡ bare fs
bare_from n [] = refl
bare_from n (f ∷ fs) =
    letters_both (traced_letter (n + 1) f) (letters_from (n + 1) fs)
    ∙ (λ i. one_letter (n + 1) f i ++ bare_from (n + 1) fs i)
    ∙ sym (letters_both (byte_of f false ∷ []) (map (λ g. byte_of g false) fs))

no_last : (n : ℕ) → letters_in (last_end n) ≡ []
no_last n = search rules

pub bare_trace : (fs : List ℕ) → letters_in (trace_text fs) ≡ bare fs
bare_trace fs = search (rules, letters_both, bare_from, no_last, append-nil)

pub map_both : (xs ys : List ℕ) → map (λ f. byte_of f false) (xs ++ ys)
    ≡ map (λ f. byte_of f false) xs ++ map (λ f. byte_of f false) ys
map_both [] ys = refl
map_both (x ∷ xs) ys = ap (λ (t : Text). byte_of x false ∷ t) (map_both xs ys)

-- the functions of orders after others
functions_both : (a b : ℕ) (s : State)
    → functions_after (a + b) s ≡ functions_after a s ++ functions_after b (state_after a s)
unfolding functions_after
functions_both a zero s = search (rules, append-nil)
functions_both a (suc b) s =
    let e : a + suc b ≡ suc (a + b) = omega arith in
    ap (λ n. functions_after n s) e
    ∙ (λ i. functions_both a b s i ++ function_of (next_word (after_sum a b s i)) ∷ [])
    ∙ append_assoc (functions_after a s) (functions_after b (state_after a s))
    (function_of (next_word (state_after b (state_after a s))) ∷ [])

-- the letters of a trace of orders are those of the first ones, and those of the others
pub letters_sum : (a b : ℕ) (s : State)
    → letters_in (trace_to (a + b) s) ≡ letters_in (trace_to a s) ++ letters_in (trace_to b (state_after a s))
letters_sum a b s = search (rules, functions_both, bare_trace, map_both, letters_both)

-- ---- the state of a session

pub none_done : (z : Size) (rows : List ℕ) → (first_state z rows).orders ≡ 0
unfolding first_state
none_done z rows = refl

module _ (s : Settings) (rows : List ℕ) (resumes : ℕ) where
  abbrev first : State
  first = first_state s.size rows

  -- a session on these rows that has obeyed n orders
  abbrev after : ℕ → Stand
  after n = record (stand_on s rows) { done = n }

  -- the run of `trace`, whose paper is never full
  trace_cut : (n : ℕ) → AreObeyed n first → (progress n first).stops ≤ resumes
      → (run_orders n resumes n first ≡ n) × (run_end n resumes n first ≡ limit_run n first)
  trace_cut n free few =
      run_cut n resumes n first (record { obeyed = free; printed = few_codes n first }) few

  module _ (n : ℕ) (free : AreObeyed n first) (most : n ≤ s.limit) (few : (progress n first).stops ≤ resumes) where
    count : (state_after n first).orders ≡ n
    count = counted_after n first free ∙ ap (λ m. m + n) (none_done s.size rows) ∙ omega arith

    note_there : ending_line Limit (state_after n first) ≡ limit_note (after n)
    note_there = ap (λ m. ending_line Limit (record (state_after n first) { orders = m })) count

    tape_cut : length (progress n first).codes ≤ paper_room
        → run_of (cut_at (after n) resumes s) rows ≡ limit_run n first
    tape_cut room = (run_cut n resumes paper_room first (record { obeyed = free; printed = room }) few).1

    steps_there : StepsAreRun s rows (after n) resumes
    steps_there = record {
      line = λ end. refl;
      trace_note = ap (λ (r : RunEnd). ending_line r.ending r.state) (trace_cut n free few).1 ∙ note_there;
      tape_note = λ room. ap (λ (r : RunEnd). ending_line r.ending r.state) (tape_cut room) ∙ note_there;
      state = λ room. ap (λ (r : RunEnd). r.state) (tape_cut room);
      shown = λ room a b.
          ap (λ (x : State). listing x.store (range_with_len a (b + 1 - a)))
          (sym (ap (λ (r : RunEnd). r.state) (tape_cut room)));
      printed = λ room w. ap (λ (r : RunEnd). (ran_outcome [] (with_post_mortem (Some w) r)).out) (tape_cut room);
      letters = λ m more.
          let k = move_orders (Orders m) (left (after n)) (state_after n first) in
          let both = free_sum n k first free (move_free (Orders m) (left (after n)) (state_after n first)) in
          let cut = λ (j : ℕ). trace_to j first in
          ap (λ j. letters_in (cut j)) (trace_cut (n + k) both more).0
          ∙ letters_sum n k first
          ∙ ap (λ j. letters_in (cut j) ++ letters_in
          (trace_to k (state_after n first))) (sym (trace_cut n free few).0);
      ends = λ aim ending is fits. run_ends s.limit paper_room n first free most aim ending fits is;
    }

pub each_step_is_run : EachStepIsRun
each_step_is_run s commands rows t resumes left few =
    let k : Keeps (stand_on s rows) t = left_keeps refl left in
    let there : record (stand_on s rows) { done = t.done } ≡ t =
    (λ i. record { start = sym k.start i; limit = sym k.limit i; done = t.done }) in
    let free : AreObeyed t.done (first_state s.size rows) = subst (λ (x : State). AreObeyed t.done x) k.start k.free in
    let stops : (progress t.done (first_state s.size rows)).stops ≤ resumes =
    subst (λ (x : State). (progress t.done x).stops ≤ resumes) k.start few in
    let most : t.done ≤ s.limit = omega (arith, k.most, k.limit) in
    subst (λ (u : Stand). StepsAreRun s rows u resumes) there (steps_there s rows resumes t.done free most stops)
