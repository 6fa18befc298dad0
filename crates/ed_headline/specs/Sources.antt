-- The program's answers to a source (this project's own rules).
use Rattle.std.specs.Prelude.{◌≡◌, ◌⊎◌, ℕ, ◌++◌, [], List, nat_le, if◌then◌else◌}
use Rattle.ed_words.specs.declared.size.Size.{Size}
use Rattle.ed_machine.specs.State.{State}
use Rattle.ed_notation.specs.Spellings.{canonicals, text_of}
use Rattle.ed_lines.specs.declared.program.Line.{Line}
use Rattle.ed_lines.specs.declared.fault.SourceCause.{SourceCause}
use Rattle.ed_lines.specs.declared.fault.SourceFault.TheVariants.{At}
use Rattle.ed_headline.specs.Refusals.{IsAcceptedAs, IsRefused}
use Rattle.ed_link.specs.Linked.{data_after, entry_of}
use Rattle.ed_link.specs.Punch.{punched_items}
use Rattle.ed_link.specs.Tapes.{after_text, cost, tape}
use Rattle.ed_link.specs.Words.{linked_places}
use Rattle.ed_headline.specs.EntryState.{entry_store}
use Rattle.ed_report.specs.Listings.{listing}
use Rattle.ed_report.specs.Notes.{entry_note, source_fault_line}
use Rattle.ed_words.specs.Texts.{Text}
use Rattle.ed_run.specs.declared.settings.Settings.{Settings}
use Rattle.ed_tapes.specs.Outcome.{Outcome, done, refusal}
use Rattle.ed_tapes.specs.Answer.{Answer, of_input}
use Rattle.ed_tapes.specs.Runs.{ran_outcome, run_of, with_post_mortem}

-- the outcome of a source on a machine of this size: if it is refused, the line of its fault; if it is accepted, what a
-- function gives for its lines
abbrev pub OfSource : Size → (List Line → Outcome) → Text → Outcome → Type 0
OfSource z accepted text o =
    ((k : ℕ) × (c : SourceCause) × IsRefused z text k c × (refusal (source_fault_line (At k c)) ≡ o))
    ⊎ ((lines : List Line) × IsAcceptedAs z text lines × (accepted lines ≡ o))

-- the input is a source, and this is the answer if it is accepted
abbrev pub of_source : Size → (List Line → Outcome) → Answer
of_source z accepted = of_input (OfSource z accepted)

-- the text before the line of an ending: if the run obeyed all orders that the tape costs up to its entry, the entry
-- and their number
abbrev pub entered_before : List Line → State → Text
entered_before lines s = if nat_le (cost lines) s.orders then entry_note (entry_of lines) (cost lines) else []

-- `run`: the run of the punched tape, with the post-mortem that is requested
abbrev pub run_outcome : Settings → List Line → Outcome
run_outcome s lines =
    let r = run_of s (tape lines) in ran_outcome (entered_before lines r.state) (with_post_mortem s.post_mortem r)

-- `punch`: the text of the punched tape
abbrev pub punch_outcome : List Line → Outcome
punch_outcome lines = done (text_of (canonicals (punched_items lines)) ++ after_text (data_after lines))

-- `listing`: the locations of the linked program, with the words of the store at the entry
abbrev pub listing_outcome : List Line → Outcome
listing_outcome lines = done (listing (entry_store lines) (linked_places lines))

-- the answer of `run`
abbrev pub run_answer : Settings → Answer
run_answer s = of_source s.size (run_outcome s)

-- the answer of `punch`
abbrev pub punch_answer : Settings → Answer
punch_answer s = of_source s.size punch_outcome

-- the answer of `listing`
abbrev pub listing_answer : Settings → Answer
listing_answer s = of_source s.size listing_outcome
