-- A call is the run of its source, from the state at its entry.
use Rattle.ed_sources.proofs.Kit.{Settings, Line, length-append, None, Ok, Call, Check, Divide, NewLine, Print, Read}
use Rattle.ed_sources.proofs.Kit.{Root, locations_least, fault, few_digits, [], arith, length, List, lit<, lit≤, refl}
use Rattle.ed_sources.proofs.Kit.{ℕ, ◌%◌, ◌++◌, ◌+◌, ◌/◌, ◌<◌, ◌∙◌, ◌∷◌, ◌≡◌, ◌≤◌, digits, root_of, at_after}
use Rattle.ed_sources.proofs.Kit.{AnswersFromEntry, read_is_accepted, paper, program_of, entry_of, cost, entry_note}
use Rattle.ed_sources.proofs.Kit.{entry_state, run_outcome, accepted_is, each_answer_is_from_entry, call_orders}
use Rattle.ed_sources.proofs.Kit.{most_call_orders, call_text, call_cost, StopsAt}
use Rattle.std.proofs.Common.{codes as codes_of_text}
use Rattle.ed_sources.specs.CallRuns.{CallRuns, EachCallRuns, GuestStops, call_entry, call_prints, call_stop}
use Rattle.ed_words.specs.declared.size.Size.TheVariants as size
use Rattle.ed_sources.proofs.CallCosts.{check_cost, divide_cost, print_cost, root_cost}
use Rattle.ed_sources.proofs.CallsAccepted.{divide_read, newline_read, print_read, read_read, root_read, check_read}
use Rattle.ed_sources.proofs.CallsAccepted.{fault-none}
use Rattle.ed_sources.proofs.CheckedPaper.{check_ends, room_for_codes}
use Rattle.ed_sources.proofs.CheckedPrint.{guest_stops}
use Rattle.ed_sources.proofs.DivideAndPrint.{call_ends, quotient_low, remainder_low}
use Rattle.ed_sources.proofs.MostOrders.{most_orders}
use Rattle.ed_sources.proofs.Papers.{digits_printed, lines_printed}
use Rattle.ed_sources.proofs.PrintAndNewline.{newline_ends, print_ends}
use Rattle.ed_sources.proofs.ReadAndPrint.{read_ends}
use Rattle.ed_sources.proofs.RootAndPrint.{root_ends, root_small}
use Rattle.ed_sources.proofs.Stopped.{stopped_outcome}
use Rattle.ed_sources.proofs.Stops.{comes_to_stop}

-- a call whose source is accepted, and which reaches its stop after its codes
runs : (s : Settings) (call : Call) {lines : List Line} {k place : ℕ} {codes : List ℕ}
    → program_of (call_text call) ≡ Ok lines → fault size.Small lines ≡ None → fault size.Full lines ≡ None
    → StopsAt k (entry_state s.size lines) codes place → length codes ≤ 1000000
    → (entry_of lines ≡ call_entry call) × (k + 1 ≡ call_orders call) × (place + 1 ≡ call_stop call) → place < 511
    → paper codes ≡ call_prints s.size lines call → GuestStops s.size lines call
    → (cost lines ≡ call_cost call) × (call_cost call + call_orders call ≤ most_call_orders call)
    → CallRuns s call (call_text call)
runs s call {lines} {k} {place} {codes} reads small full stops few are low text guest costs =
    let accepted = read_is_accepted s.size (call_text call) lines reads (fault-none s.size lines small full) in
    let entry : AnswersFromEntry s lines = each_answer_is_from_entry s (call_text call) lines accepted in
    let count = are.1 in
    record {
      lines = lines;
      accepted = accepted;
      answers = accepted_is s.size (run_outcome s) (call_text call) lines accepted;
      from_entry = entry;
      costs = costs.0;
      few = let is = costs.0 in let most = costs.1 in omega (arith, is, most);
      guest_stops = guest;
      ends = λ none plain fits.
          let size = locations_least s.size in
          stopped_outcome s entry (comes_to_stop stops (omega arith)) few none plain (omega (arith, fits, count))
          ∙ (λ i. record {
            out = text i;
            note = entry_note (are.0 i) (cost lines)
                ++ (at_after (codes_of_text "stopped") (are.2 i) (cost lines + are.1 i) ++ 10 ∷ []);
            status = 0;
          });
    }

pub each_call_runs : EachCallRuns
each_call_runs (Print n) s small =
    let few = few_digits n in
    runs s (Print n) (print_read n small) refl refl (print_ends s.size n small) (omega arith)
    (refl, omega arith, refl) (lit< tt) (digits_printed n small) tt (print_cost n, most_orders (Print n) small)
each_call_runs (Read n) s small =
    let few = few_digits n in
    runs s (Read n) (read_read n small) refl refl (read_ends s.size n small) (omega arith)
    (refl, omega arith, refl) (lit< tt) (digits_printed n small) tt (refl, most_orders (Read n) small)
each_call_runs NewLine s made =
    runs s NewLine newline_read refl refl (newline_ends s.size) (lit≤ tt) (refl, refl, refl) (lit< tt)
    refl tt (refl, most_orders NewLine made)
each_call_runs (Divide n by) s made =
    let few = few_digits (n / by) in
    let behind = few_digits (n % by) in
    let both = length-append (digits (n / by)) (18 ∷ 24 ∷ 11 ∷ digits (n % by)) in
    let positive = made.positive in
    let divisor = made.divisor in
    let less = made.less in
    runs s (Divide n by) (divide_read n by made) refl refl (call_ends s.size n by made) (omega arith)
    (refl, omega arith, refl) (lit< tt)
    (lines_printed (n / by) (n % by) (quotient_low n by positive less) (remainder_low n by positive divisor)) tt
    (divide_cost (n / 65536) (n % 65536) by, most_orders (Divide n by) made)
each_call_runs (Root n) s small =
    let few = few_digits (root_of n) in
    runs s (Root n) (root_read n small) refl refl (root_ends s.size n small) (omega arith)
    (refl, omega arith, refl) (lit< tt) (digits_printed (root_of n) (root_small n small)) tt
    (root_cost n, most_orders (Root n) small)
each_call_runs (Check n) s small =
    runs s (Check n) (check_read n small) refl refl (check_ends s.size n small)
    (room_for_codes n _ small) (refl, omega arith, refl) (lit< tt) refl (guest_stops s.size n small)
    (check_cost n, most_orders (Check n) small)
