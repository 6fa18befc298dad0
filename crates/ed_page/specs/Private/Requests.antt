-- The answers to what is asked about a text, and to a program whose run is shown.
use Rattle.std.specs.Prelude.{ℕ, List}
use Rattle.ed_codes.specs.Reading.{reading}
use Rattle.ed_machine.specs.State.{State}
use Rattle.ed_run.specs.Run.{RunEnd}
use Rattle.ed_words.specs.Texts.{Text}
use Rattle.ed_run.specs.declared.settings.Settings.{Settings}
use Rattle.ed_tapes.specs.Answer.{OfReading, exactly}
use Rattle.ed_tapes.specs.FirstOrders.{run1_of, tape1_outcome}
use Rattle.ed_tapes.specs.Outcome.{Outcome, done}
use Rattle.ed_tapes.specs.Runs.{run_of}
use Rattle.ed_headline.specs.Sources.{OfSource, listing_outcome, punch_outcome, run_outcome}
use Rattle.ed_tapes.specs.Tapes.{tape_outcome}
use Rattle.ed_page.specs.Answers.{RowsEnd, SourceEnds, source_rows}
use Rattle.ed_page.specs.TapeItems.{IsItemsOutcome, IsItemsOutcome1}
use Rattle.ed_page.specs.declared.request.Request.{Request}
use Rattle.ed_page.specs.declared.request.Request.TheVariants.{Tape as OfTape, SourceRows, Punch, Listing}
use Rattle.ed_page.specs.declared.request.RowsRequest.{RowsRequest}
use Rattle.ed_page.specs.declared.request.RowsRequest.TheVariants.{Codes, Items, Items1}
use Rattle.ed_page.specs.declared.running.InitialOrders.{InitialOrders}
use Rattle.ed_page.specs.declared.running.InitialOrders.TheVariants.{Orders41, Orders31}
use Rattle.ed_page.specs.declared.running.ProgramKind.{ProgramKind}
use Rattle.ed_page.specs.declared.running.ProgramKind.TheVariants.{Tape, Source}

-- the outcomes of rows, by what is asked about them
abbrev pub answers_to_rows : RowsRequest → List ℕ → Outcome → Type 0
answers_to_rows Codes = exactly done
answers_to_rows (Items z) = IsItemsOutcome z
answers_to_rows Items1 = IsItemsOutcome1

-- the outcomes of a text that is not too long, by what is asked about it
abbrev pub answers_to : Request → Text → Outcome → Type 0
answers_to (OfTape a) = λ text. OfReading (answers_to_rows a) (reading text)
answers_to (SourceRows z) = OfSource z source_rows
answers_to (Punch s) = OfSource s.size punch_outcome
answers_to (Listing s) = OfSource s.size listing_outcome

-- the outcome of the rows of a tape, by the Initial Orders that read it
abbrev pub tape_outcome_by : InitialOrders → Settings → List ℕ → Outcome
tape_outcome_by Orders41 s = tape_outcome s
tape_outcome_by Orders31 s = tape1_outcome s

-- the run of the rows of a tape, by the Initial Orders that read it
abbrev pub run_by : InitialOrders → Settings → List ℕ → RunEnd
run_by Orders41 s = run_of s
run_by Orders31 s = run1_of s

-- the outcomes of the run of a program
abbrev pub answers_of : ProgramKind → Settings → Text → Outcome → Type 0
answers_of (Tape orders) s = λ text. OfReading (exactly (tape_outcome_by orders s)) (reading text)
answers_of Source s = OfSource s.size (run_outcome s)

-- the state in which the run of a program ends
abbrev pub ends_of : ProgramKind → Settings → Text → State → Type 0
ends_of (Tape orders) s = RowsEnd (run_by orders s)
ends_of Source s = SourceEnds s
