-- What `demo` prints, for every number of segments that the store holds (this project's own rule).
use Rattle.std.specs.Prelude.{◌≡◌, ℕ, ◌+◌, ◌*◌, ◌≤◌, List, [], ◌∷◌, ◌++◌, codes, None}
use Rattle.std.specs.Fmt.{decimal}
use Rattle.ed_words.specs.Sizes.{locations}
use Rattle.ed_run.specs.declared.settings.Settings.{Settings}
use Rattle.ed_lines.specs.declared.program.Line.{Line}
use Rattle.ed_headline.specs.Refusals.{IsAcceptedAs}
use Rattle.ed_link.specs.Tapes.{cost}
use Rattle.ed_report.specs.Notes.{at_after, entry_note}
use Rattle.ed_routines.specs.Digits.{print_orders}
use Rattle.ed_sources.specs.Costs.{demo_cost}
use Rattle.ed_sources.specs.DemoSources.{demo_sum, demo_text}
use Rattle.ed_headline.specs.FromEntry.{AnswersFromEntry}
use Rattle.ed_tapes.specs.Outcome.{Outcome}
use Rattle.ed_words.specs.Texts.{Text}
use Rattle.ed_headline.specs.Sources.{OfSource, run_outcome}

-- the number of orders that `demo N` obeys from its entry to its stop, including the stop: 9 for each of its 8 N words,
-- those of `print` for the sum, and 4 others
abbrev pub demo_orders : ℕ → ℕ
demo_orders n = 9 * (8 * n) + print_orders (demo_sum n) + 4

-- the greatest number of orders that a `demo N` takes, including those that read its tape
abbrev pub most_demo_orders : ℕ
most_demo_orders = 53141

-- the sum in decimal, status 0, and the note of a program that is entered at 56 and stops at 69
abbrev pub demo_outcome : List Line → ℕ → Outcome
demo_outcome lines n = record {
  out = decimal (demo_sum n);
  note = entry_note 56 (cost lines) ++ (at_after (codes "stopped") 69 (cost lines + demo_orders n) ++ 10 ∷ []);
  status = 0;
}

-- a text is accepted with these lines, so the answer to it is their run, and that is the run from the state at their
-- entry
pub record DemoRuns (s : Settings) (n : ℕ) (text : Text) : Type 0 where
  pub lines : List Line
  pub accepted : IsAcceptedAs s.size text lines
  pub answers : OfSource s.size (run_outcome s) text (run_outcome s lines)
  pub from_entry : AnswersFromEntry s lines
  -- and if the limit is not below the number of orders that it takes, it prints the sum of its words and stops
  pub prints : s.resumes ≡ 0 → s.post_mortem ≡ None → cost lines + demo_orders n ≤ s.limit
      → run_outcome s lines ≡ demo_outcome lines n
  -- the cost of its tape is a function of N, and these orders are few, so the default limit is enough
  pub costs : cost lines ≡ demo_cost n
  pub cheap : cost lines + demo_orders n ≤ most_demo_orders

-- a text is the source of `demo N`: if the words, from location 123 upwards, are within the store, this holds for all
-- settings; with 1,024 locations they are for each N up to 112, with 512 for each N up to 48
abbrev pub RunsAsDemo : ℕ → Text → Type 0
RunsAsDemo n text = (s : Settings) → 123 + 8 * n ≤ locations s.size → DemoRuns s n text

-- `demo 112` takes the greatest number of orders
abbrev pub LastDemoIsLongest : Type 0
LastDemoIsLongest = demo_cost 112 + demo_orders 112 ≡ most_demo_orders

-- the source of each `demo N`
abbrev pub EachDemoRuns : Type 0
EachDemoRuns = (n : ℕ) → 1 ≤ n → n ≤ 112 → RunsAsDemo n (demo_text n)
