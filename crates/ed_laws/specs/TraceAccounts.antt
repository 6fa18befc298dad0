-- A trace accounts for its run (this project's own rules): its letters are the orders that were obeyed, and its Zs are
-- the stops.
use Rattle.std.specs.Prelude.{◌≡◌, ◌↔◌, ℕ, ◌+◌, ◌==◌, List, [], ◌∷◌, ◌++◌, Some, length}
use Rattle.std.specs.List.{filter}
use Rattle.ed_words.specs.Sizes.{within}
use Rattle.ed_words.specs.Texts.{Text}
use Rattle.ed_words.specs.Words.{function_of}
use Rattle.ed_store.specs.Cells.{short_at}
use Rattle.ed_orders.specs.Kinds.{kind_of_function}
use Rattle.ed_orders.specs.declared.kind.Kind.TheVariants.{Z}
use Rattle.ed_machine.specs.State.{State}
use Rattle.ed_run.specs.Run.{RunEnd, run_end}
use Rattle.ed_run.specs.declared.settings.Settings.{Settings}
use Rattle.ed_initial.specs.Entry.{first_state}
use Rattle.ed_tapes.specs.Runs.{run_of}
use Rattle.ed_tapes.specs.Tapes.{tape_outcome}
use Rattle.ed_streams.specs.Traces.{trace_outcome}
use Rattle.ed_laws.specs.MoreResumes.{letters_of}

-- the run that is traced, whose paper is never full; the note of the trace has the count of orders of its state
abbrev pub traced_run : Settings → List ℕ → RunEnd
traced_run s rows = run_end s.limit s.resumes s.limit (first_state s.size rows)

-- the counter is one past the location of an order Z
pub record IsPastStop (s : State) : Type 0 where
  pub at : ℕ
  pub next : s.counter ≡ within s.size (at + 1)
  pub stop : kind_of_function (function_of (short_at s.store at)) ≡ Some Z

-- there are as many letters as orders in the note. The status is 0 exactly if Z (90) occurs one time more than there are
-- resumes; then Z is the last letter. A run of `trace` or `tape` that has stopped at C has an order Z before C.
pub record TraceAccounts (s : Settings) (rows : List ℕ) : Type 0 where
  pub orders : length (letters_of (trace_outcome s rows)) ≡ (traced_run s rows).state.orders
  pub stops : (trace_outcome s rows).status ≡ 0
      ↔ length (filter (λ byte. byte == 90) (letters_of (trace_outcome s rows))) ≡ s.resumes + 1
  pub last : (trace_outcome s rows).status ≡ 0 → (before : Text) × (letters_of (trace_outcome s rows) ≡ before ++ 90 ∷ [])
  pub past : (trace_outcome s rows).status ≡ 0 → IsPastStop (traced_run s rows).state
  pub tape_past : (tape_outcome s rows).status ≡ 0 → IsPastStop (run_of s rows).state

-- the same for every tape
abbrev pub EachTraceAccounts : Type 0
EachTraceAccounts = (s : Settings) (rows : List ℕ) → TraceAccounts s rows
