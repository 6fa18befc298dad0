-- `demo` is the run of its source, from the state at its entry to its stop.
use Rattle.ed_sources.proofs.Kit.{Line, codes, Text, few_digits, [], arith, List, ℕ, ◌*◌, ◌++◌, ◌+◌, ◌∙◌}
use Rattle.ed_sources.proofs.Kit.{◌∷◌, ◌≡◌, print_orders, at_after, AnswersFromEntry, read_is_accepted, cost}
use Rattle.ed_sources.proofs.Kit.{entry_note, run_outcome, accepted_is, each_answer_is_from_entry, demo_sum, demo_text}
use Rattle.ed_tapes.specs.Outcome.{Outcome}
use Rattle.ed_sources.specs.DemoRuns.{EachDemoRuns, demo_orders}
use Rattle.ed_sources.proofs.DemoAccepted.{demo_read}
use Rattle.ed_sources.proofs.DemoMost.{demo_few}
use Rattle.ed_sources.proofs.DemoEnds.{demo_cost_is, demo_ends, demo_entry, sum_small}
use Rattle.ed_sources.proofs.DemoFaultless.{demo_faultless}
use Rattle.ed_sources.proofs.Papers.{digits_printed}
use Rattle.ed_sources.proofs.SaidDemo.{demo_lines}
use Rattle.ed_sources.proofs.Stopped.{stopped_outcome}

-- the outcome of a run that was entered at a location after k orders, and stopped after more
abbrev stopped : Text → (entry k orders : ℕ) → Outcome
stopped text entry k orders = record {
  out = text;
  note = entry_note entry k ++ (at_after (codes "stopped") 69 orders ++ 10 ∷ []);
  status = 0;
}

pub each_demo_runs : EachDemoRuns
each_demo_runs n some few s fits =
    let lines : List Line = demo_lines n in
    let accepted =
    read_is_accepted s.size (demo_text n) lines (demo_read n few) (demo_faultless s.size n some few fits) in
    let entry : AnswersFromEntry s lines = each_answer_is_from_entry s (demo_text n) lines accepted in
    record {
      lines = lines;
      accepted = accepted;
      answers = accepted_is s.size (run_outcome s) (demo_text n) lines accepted;
      from_entry = entry;
      prints = λ none plain enough.
          let digit_count = few_digits (demo_sum n) in
          let count : cost lines + (72 * n + 3 + print_orders (demo_sum n) + 1) ≡ cost lines + demo_orders n =
          omega arith in
          let printed = digits_printed (demo_sum n) (sum_small n few) in
          let at = demo_entry n some few in
          stopped_outcome s entry (demo_ends s.size n some few fits) (omega (arith, digit_count)) none plain
          (omega (arith, enough, count))
          ∙ (λ i. stopped (printed i) (at i) (cost lines) (count i));
      costs = demo_cost_is n some few;
      cheap = let is = demo_cost_is n some few in let most = demo_few n some few in omega (arith, is, most);
    }
