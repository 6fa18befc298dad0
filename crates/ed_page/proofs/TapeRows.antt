-- The rows that a run leaves are the end of its tape's rows.
use Rattle.ed_page.proofs.Kit.{rules, Kind, zero, function_of, kind_of_function, run1_of, [], ap, append_assoc, List}
use Rattle.ed_page.proofs.Kit.{None, Option, refl, Some, suc, sym, ℕ, ◌++◌, ◌∙◌, ◌∷◌, ◌≡◌, step, State, progress}
use Rattle.ed_page.proofs.Kit.{state_after, run_end, run_orders, first_state, first_state1, paper_room, run_of}
use Rattle.ed_orders.specs.declared.kind.Kind.TheVariants.{E, G, I}
use Rattle.ed_machine.specs.OrderTable.{next_word, obey_word, row_order}
use Rattle.ed_page.specs.Answers.{EachRunReadsOn, IsEndOf}

-- one order reads at most one row
by_order : (k : Option Kind) (w : ℕ) (s : State) → IsEndOf (obey_word k w s).state.tape s.tape
by_order (Some E) w s = search rules
by_order (Some G) w s = search rules
by_order (Some I) w s = by_tape s.tape refl
  where
    by_tape : (rows : List ℕ) → s.tape ≡ rows → IsEndOf (row_order rows w s).state.tape s.tape
    by_tape [] e = ([], refl)
    by_tape (row ∷ rows) e = (row ∷ [], sym e)
by_order None w s = ([], refl)
by_order (Some k) w s = ([], refl)

by_step : (s : State) → IsEndOf (step s).state.tape s.tape
unfolding step
by_step s = by_order (kind_of_function (function_of (next_word s))) (next_word s) s

pub by_steps : (k : ℕ) (s : State) → IsEndOf (state_after k s).tape s.tape
unfolding progress
by_steps zero s = ([], refl)
by_steps (suc k) s =
    let before = by_steps k s in
    let here = by_step (state_after k s) in
    let all = append_assoc before.0 here.0 (step (state_after k s)).state.tape
    ∙ ap (λ (rows : List ℕ). before.0 ++ rows) here.1 ∙ before.1 in
    (before.0 ++ here.0, all)

pub each_run_reads_on : EachRunReadsOn run_of
unfolding run_end first_state
each_run_reads_on s codes =
    let first = first_state s.size codes in by_steps (run_orders s.limit s.resumes paper_room first) first

pub each_run1_reads_on : EachRunReadsOn run1_of
unfolding run_end first_state1
each_run1_reads_on s codes =
    let first = first_state1 codes in by_steps (run_orders s.limit s.resumes paper_room first) first
