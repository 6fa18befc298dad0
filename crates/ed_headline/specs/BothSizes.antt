-- What doesn't depend on the size of the store (this project's own rule): a run that stays in the first 512 locations.
use Rattle.std.specs.Prelude.{◌≡◌, ℕ, ◌<◌, Bool, true, false, List, Option, Some, None}
use Rattle.ed_words.specs.declared.size.Size.{Size}
use Rattle.ed_words.specs.declared.size.Size.TheVariants.{Small, Full}
use Rattle.ed_words.specs.Words.{address_of, function_of}
use Rattle.ed_orders.specs.Kinds.{kind_of_function}
use Rattle.ed_orders.specs.declared.kind.Kind.{Kind}
use Rattle.ed_orders.specs.declared.kind.Kind.TheVariants.{R, L, X, Y, Z}
use Rattle.ed_machine.specs.State.{State}
use Rattle.ed_machine.specs.OrderTable.{next_word}
use Rattle.ed_machine.specs.Steps.{state_after}
use Rattle.ed_run.specs.Run.{run_orders}
use Rattle.ed_run.specs.declared.settings.Settings.{Settings}
use Rattle.ed_initial.specs.Entry.{first_state}
use Rattle.ed_lines.specs.declared.program.Line.{Line}
use Rattle.ed_link.specs.Tapes.{tape}
use Rattle.ed_tapes.specs.Tapes.{tape_outcome}
use Rattle.ed_tapes.specs.Runs.{paper_room}
use Rattle.ed_headline.specs.Sources.{run_outcome}

-- whether an order of this kind names a location
abbrev pub names_location : Kind → Bool
names_location R = false
names_location L = false
names_location X = false
names_location Y = false
names_location Z = false
names_location kind = true

-- if a word is an order and names a location, the location is below 512
abbrev pub NamesBelow : Option Kind → ℕ → Type 0
NamesBelow None w = Unit {0}
NamesBelow (Some kind) w = names_location kind ≡ true → address_of w < 512

-- the order at the counter names no location above 511, and is not at the end of the smaller store
pub record StaysBelow (s : State) : Type 0 where
  pub named : NamesBelow (kind_of_function (function_of (next_word s))) (next_word s)
  pub next : s.counter < 511

-- the same for each order that the run of a tape obeys on the smaller store
abbrev pub RunStaysBelow : Settings → List ℕ → Type 0
RunStaysBelow s codes =
    (j : ℕ) → j < run_orders s.limit s.resumes paper_room (first_state Small codes)
    → StaysBelow (state_after j (first_state Small codes))

-- the same settings for a store of this size
abbrev pub with_store : Size → Settings → Settings
with_store z s = record s { size = z }

-- such a run has the same answer on both sizes: the run of a tape, and of the tape of a source
pub record EachSize : Type 0 where
  pub tapes : (s : Settings) (codes : List ℕ) → RunStaysBelow s codes
      → tape_outcome (with_store Full s) codes ≡ tape_outcome (with_store Small s) codes
  pub sources : (s : Settings) (lines : List Line) → RunStaysBelow s (tape lines)
      → run_outcome (with_store Full s) lines ≡ run_outcome (with_store Small s) lines
