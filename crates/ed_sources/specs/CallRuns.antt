-- What `call` prints, for every call with its numbers in range (this project's own rule).
use Rattle.std.specs.Prelude.{◌≡◌, ℕ, ◌+◌, ◌*◌, ◌/◌, ◌%◌, ◌≤◌, List, [], ◌∷◌, ◌++◌, codes, length, None}
use Rattle.std.specs.Fmt.{decimal}
use Rattle.ed_library.specs.declared.call.Call.{Call}
use Rattle.ed_library.specs.declared.call.Call.TheVariants.{Print, Read, NewLine, Divide, Root, Check}
use Rattle.ed_lines.specs.declared.program.Line.{Line}
use Rattle.ed_headline.specs.Refusals.{IsAcceptedAs}
use Rattle.ed_link.specs.Tapes.{cost}
use Rattle.ed_headline.specs.EntryState.{entry_state}
use Rattle.ed_printer.specs.Paper.{paper}
use Rattle.ed_report.specs.Notes.{at_after, entry_note}
use Rattle.ed_routines.specs.Digits.{before_units, digits, print_orders, sum}
use Rattle.ed_maths.specs.Quotients.{divide_orders}
use Rattle.ed_maths.specs.Roots.{root_of, root_orders}
use Rattle.ed_checker.specs.Checker.{checked_codes, guest, planting_place}
use Rattle.ed_checker.specs.Laws.{StopsAfter}
use Rattle.ed_words.specs.declared.size.Size.{Size}
use Rattle.ed_library.specs.CallRanges.{IsCallInRange}
use Rattle.ed_sources.specs.CallSources.{call_text}
use Rattle.ed_sources.specs.Costs.{call_cost}
use Rattle.ed_words.specs.Texts.{Text}
use Rattle.ed_run.specs.declared.settings.Settings.{Settings}
use Rattle.ed_tapes.specs.Outcome.{Outcome}
use Rattle.ed_headline.specs.Sources.{OfSource, run_outcome}
use Rattle.ed_headline.specs.FromEntry.{AnswersFromEntry}

-- the base of the checking routine in the source of `call check`
abbrev pub check_base : ℕ
check_base = 112

-- what a call prints if its source has these lines: the decimal digits of its number, a carriage return and a line
-- feed, the digits of a quotient and of a remainder on two lines, or those of a root; for `check` the checked codes of
-- the guest's orders up to its Z, which are the two that call `print`, those of `print`, and Z
abbrev pub call_prints : Size → List Line → Call → Text
call_prints z lines (Print n) = decimal n
call_prints z lines (Read n) = decimal n
call_prints z lines NewLine = 13 ∷ 10 ∷ []
call_prints z lines (Divide n by) = decimal (n / by) ++ 13 ∷ 10 ∷ decimal (n % by)
call_prints z lines (Root n) = decimal (root_of n)
call_prints z lines (Check n) = paper (checked_codes (guest check_base (entry_state z lines)) (3 + print_orders n))

-- the number of orders that it obeys from its entry to its stop, including the stop
abbrev pub call_orders : Call → ℕ
call_orders (Print n) = 3 + print_orders n
call_orders (Read n) = 16 + 13 * length (digits n) + print_orders n
call_orders NewLine = 8
call_orders (Divide n by) = 14 + divide_orders (n / by) + print_orders (n / by) + print_orders (n % by)
call_orders (Root n) = 5 + root_orders (root_of n) + print_orders (root_of n)
call_orders (Check n) = 2551 + 244 * sum (before_units n) + 142 * length (before_units n)

-- the location at which its program is entered
abbrev pub call_entry : Call → ℕ
call_entry (Check n) = check_base
call_entry call = 56

-- the counter after its stop
abbrev pub call_stop : Call → ℕ
call_stop (Print n) = 59
call_stop (Read n) = 61
call_stop NewLine = 59
call_stop (Divide n by) = 65
call_stop (Root n) = 61
call_stop (Check n) = check_base + planting_place + 1

-- the outcome of a call whose source has these lines and reaches its stop: its text, the entry with the cost of its
-- tape, the stop with the count of all orders, and the status 0
abbrev pub call_outcome : Size → List Line → Call → Outcome
call_outcome z lines call = record {
  out = call_prints z lines call;
  note = entry_note (call_entry call) (cost lines)
      ++ (at_after (codes "stopped") (call_stop call) (cost lines + call_orders call) ++ 10 ∷ []);
  status = 0;
}

-- the greatest number of orders that a call of its routine takes, including those that read its tape
abbrev pub most_call_orders : Call → ℕ
most_call_orders (Print n) = 2701
most_call_orders (Read n) = 3799
most_call_orders NewLine = 484
most_call_orders (Divide n by) = 7635
most_call_orders (Root n) = 5659
most_call_orders (Check n) = 15779

-- a call has its numbers in range and takes the greatest number of orders
abbrev pub IsLongest : Call → Type 0
IsLongest call = IsCallInRange call × (call_cost call + call_orders call ≡ most_call_orders call)

-- a call of each routine does so
pub record EachMostIsTaken : Type 0 where
  pub print : IsLongest (Print 59990)
  pub read : IsLongest (Read 59990)
  pub newline : IsLongest NewLine
  pub divide : IsLongest (Divide 1865781190 31100)
  pub root : IsLongest (Root 65535)
  pub check : IsLongest (Check 59990)

-- the guest of `check` is obeyed up to its first Z, which is the last of its orders that are checked
abbrev pub GuestStops : Size → List Line → Call → Type 0
GuestStops z lines (Check n) = StopsAfter (2 + print_orders n) (guest check_base (entry_state z lines))
GuestStops z lines call = Unit {0}

-- a text is accepted with these lines, so the answer to it is their run, and that is the run from the state at their
-- entry
pub record CallRuns (s : Settings) (call : Call) (text : Text) : Type 0 where
  pub lines : List Line
  pub accepted : IsAcceptedAs s.size text lines
  pub answers : OfSource s.size (run_outcome s) text (run_outcome s lines)
  pub from_entry : AnswersFromEntry s lines
  -- the cost of its tape is that of its numbers, and it takes at most as many orders as the longest call of its routine
  pub costs : cost lines ≡ call_cost call
  pub few : cost lines + call_orders call ≤ most_call_orders call
  pub guest_stops : GuestStops s.size lines call
  -- and if the limit is not below the number of orders that it takes, this is its outcome
  pub ends : s.resumes ≡ 0 → s.post_mortem ≡ None → cost lines + call_orders call ≤ s.limit
      → run_outcome s lines ≡ call_outcome s.size lines call

-- a text is the source of a call: if the numbers of the call are in range, this holds for all settings
abbrev pub RunsAsCall : Call → Text → Type 0
RunsAsCall call text = (s : Settings) → IsCallInRange call → CallRuns s call text

-- the source of each call with its numbers in range, as the reader of the command line ensures
abbrev pub EachCallRuns : Type 0
EachCallRuns = (call : Call) → RunsAsCall call (call_text call)
