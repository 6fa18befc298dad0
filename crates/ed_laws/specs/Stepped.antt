-- What `step` reports is what `trace`, `tape` and a post-mortem report after the same number of orders (this project's
-- own rules).
use Rattle.std.specs.Prelude.{◌≡◌, ℕ, ◌+◌, ◌-◌, ◌≤◌, List, ◌∷◌, [], ◌++◌, Option, Some, None, codes, length}
use Rattle.std.specs.Fmt.{decimal}
use Rattle.std.specs.List.{range_with_len}
use Rattle.ed_machine.specs.Steps.{Progress, progress}
use Rattle.ed_machine.specs.declared.ending.Ending.{Ending}
use Rattle.ed_machine.specs.declared.ending.Ending.TheVariants.{Stopped, Limit, NoOrder, NoTape}
use Rattle.ed_printer.specs.Paper.{paper}
use Rattle.ed_postmortem.specs.Codes.{printed_codes}
use Rattle.ed_report.specs.Listings.{listing}
use Rattle.ed_report.specs.Traces.{trace_text}
use Rattle.ed_stepper.specs.MoveEnds.{move_end}
use Rattle.ed_stepper.specs.ScriptLines.{CommandList}
use Rattle.ed_stepper.specs.Scripts.{LeftBy, end_word, line_at, after_move, traced_functions, words_shown}
use Rattle.ed_stepper.specs.Sessions.{Stand, left, stands_at}
use Rattle.ed_stepper.specs.declared.moves.MoveTarget.{MoveTarget}
use Rattle.ed_stepper.specs.declared.moves.MoveTarget.TheVariants.{Orders}
use Rattle.ed_stepper.specs.declared.moves.MoveEnd.{MoveEnd}
use Rattle.ed_stepper.specs.declared.moves.MoveEnd.TheVariants as ends
use Rattle.ed_words.specs.Texts.{Text}
use Rattle.ed_run.specs.declared.settings.Settings.{Settings}
use Rattle.ed_run.specs.declared.settings.Window.{Window}
use Rattle.ed_tapes.specs.Tapes.{tape_outcome}
use Rattle.ed_tapes.specs.Runs.{paper_room, run_of}
use Rattle.ed_top.specs.Scripts.{stand_on}
use Rattle.ed_streams.specs.Traces.{letters_in, trace_outcome}

-- ---- the run that is cut off at the state of a session

-- the same settings for a run that is cut off after as many orders as a session obeyed, with this number of resumes
abbrev pub cut_at : Stand → ℕ → Settings → Settings
cut_at t resumes s = record s { limit = t.done; resumes = resumes }

-- the run of a session so far: its state, the codes printed, and the number of stops
abbrev pub way : Stand → Progress
way t = progress t.done t.start

-- such a run is resumed after each stop
abbrev pub IsResumed : ℕ → Stand → Type 0
IsResumed resumes t = (way t).stops ≤ resumes

-- the paper of `tape` has room for what was printed; `trace` and `step` have no paper
abbrev pub HasRoomFor : Stand → Type 0
HasRoomFor t = length (way t).codes ≤ paper_room

-- `at A after K`, A the counter and K the count of orders obeyed
abbrev pub at_text : Stand → Text
at_text t = codes "at " ++ decimal (stands_at t).counter ++ codes " after " ++ decimal t.done

-- `limit at A after K`
abbrev pub limit_note : Stand → Text
limit_note t = codes "limit " ++ at_text t ++ 10 ∷ []

-- the ending of a run that corresponds to the end of a move; a move's own end has none
abbrev pub ending_of : MoveEnd → Option Ending
ending_of ends.Stopped = Some Stopped
ending_of ends.NoOrder = Some NoOrder
ending_of ends.NoTape = Some NoTape
ending_of ends.Limit = Some Limit
ending_of end = None

-- the resumes of a run that ends this way after orders with this number of stops: one for each, except for a stop that
-- ends the run
abbrev pub resumes_to : Ending → ℕ → ℕ
resumes_to Stopped stops = stops - 1
resumes_to ending stops = stops

-- ---- the law

-- a session, and a run that is cut off after the same number of orders and has enough resumes, report the same
-- location, state, words and letters
pub record StepsAreRun (s : Settings) (rows : List ℕ) (t : Stand) (resumes : ℕ) : Type 0 where
  -- the line of the move that ended here has the counter and the count of orders in the notes of `trace` and `tape`
  pub line : (end : MoveEnd) → line_at t end ≡ at_text t ++ codes ": " ++ end_word end ++ 10 ∷ []
  pub trace_note : (trace_outcome (cut_at t resumes s) rows).note ≡ limit_note t
  pub tape_note : HasRoomFor t → (tape_outcome (cut_at t resumes s) rows).note ≡ limit_note t
  -- what the session shows, words, registers and the last printed code, is of the state in which that run of `tape`
  -- ends
  pub state : HasRoomFor t → (run_of (cut_at t resumes s) rows).state ≡ stands_at t
  -- so `show A B` lists the words of that run's store, and a post-mortem of the run prints these words after what the
  -- run itself printed
  pub shown : HasRoomFor t → (a b : ℕ)
      → words_shown a b t ≡ listing (run_of (cut_at t resumes s) rows).state.store (range_with_len a (b + 1 - a))
  pub printed : HasRoomFor t → (w : Window)
      → (tape_outcome (record (cut_at t resumes s) { post_mortem = Some w }) rows).out
      ≡ paper ((way t).codes ++ printed_codes (stands_at t).store.words w.first w.count)
  -- a line `trace N` writes the letters by which the trace up to its end is longer than the trace up to here
  pub letters : (n : ℕ) → IsResumed resumes (after_move (Orders n) t)
      → letters_in (trace_outcome (cut_at (after_move (Orders n) t) resumes s) rows).out
      ≡ letters_in (trace_outcome (cut_at t resumes s) rows).out ++ letters_in (trace_text (traced_functions n t))
  -- a move forward from here that doesn't end by its own end stops where the run of `tape` with the session's limit
  -- ends, and reports the same ending
  pub ends : (aim : MoveTarget) (ending : Ending) → ending_of (move_end aim (left t) (stands_at t)) ≡ Some ending
      → HasRoomFor (after_move aim t)
      → run_of (record s { resumes = resumes_to ending (way (after_move aim t)).stops }) rows
      ≡ record { ending = ending; state = stands_at (after_move aim t); codes = (way (after_move aim t)).codes }

-- the same wherever a line of a script leaves a session, on the rows of a tape or of a source's tape
abbrev pub EachStepIsRun : Type 0
EachStepIsRun = (s : Settings) (commands : CommandList) (rows : List ℕ) (t : Stand) (resumes : ℕ)
    → LeftBy commands (stand_on s rows) t → IsResumed resumes t → StepsAreRun s rows t resumes
