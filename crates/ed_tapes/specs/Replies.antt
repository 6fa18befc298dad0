-- How a reply relates to the outcome that is due, and what can prevent one: a text that is refused.
use Rattle.std.specs.Prelude.{◌≡◌, ◌<◌, ◌≤◌, ◌+◌, ◌^◌, Result, Ok, Err}
use Rattle.ed_codes.specs.Reading.{Reading, rows, no_row, open_comment}
use Rattle.ed_codes.specs.declared.tape.TextFault.TheVariants.{NoRow, OpenComment}
use Rattle.ed_machine.specs.State.{State}
use Rattle.ed_run.specs.Run.{RunEnd}
use Rattle.ed_run.specs.SettingRanges.{IsWindowOf}
use Rattle.ed_run.specs.declared.settings.Window.{Window}
use Rattle.ed_postmortem.specs.Answers.{enough_orders}
use Rattle.ed_report.specs.Notes.{text_fault_line}
use Rattle.ed_words.specs.Texts.{Text}
use Rattle.ed_tapes.specs.Outcome.{Outcome, refusal}
use Rattle.ed_tapes.specs.Answer.{Answer, known, of_made, of_input}
use Rattle.ed_tapes.specs.declared.running.FinishedRun.{FinishedRun}
use Rattle.ed_tapes.specs.declared.reply.Rejection.{Rejection}
use Rattle.ed_tapes.specs.declared.reply.Rejection.TheVariants.{Memory, Refused}
use Rattle.ed_tapes.specs.declared.reply.Reply.{Reply}

-- this holds of the known outcome, or of one that is allowed, or of one for the input
abbrev pub ForInput : Answer → Text → (Outcome → Type 0) → Type 0
ForInput (known due) input P = P due
ForInput (of_made answers) input P = (o : Outcome) × answers o × P o
ForInput (of_input answers) input P = (o : Outcome) × answers input o × P o

-- both texts and the status of a reply are those of the outcome; no reply has the status of a fault or of no memory
pub record Gives (reply : Reply) (o : Outcome) : Type 0 where
  pub out_is : reply.out.items ≡ o.out
  pub note_is : reply.note.items ≡ o.note
  pub status_is : reply.status ≡ o.status
  pub low : reply.status < 8

-- a reply gives the outcome of an input, whether the input is refused or not; if no memory is found for the reply,
-- there is such an outcome
abbrev pub Replies : Answer → Text → Result Reply Rejection → Type 0
Replies answer input (Ok reply) = ForInput answer input (Gives reply)
Replies answer input (Err (Refused reply)) = ForInput answer input (Gives reply)
Replies answer input (Err Memory) = ForInput answer input (λ o. Unit {0})

-- a rejection refuses an input with a line, or reports that no memory was found
abbrev pub Refuses : Text → Rejection → Type 0
Refuses line (Refused reply) = Gives reply (refusal line)
Refuses line Memory = Unit {0}

-- a reply refuses a text for its fault
abbrev pub RefusesText : Reading → Rejection → Type 0
RefusesText r Memory = Unit {0}
RefusesText (rows codes) (Refused reply) = ⊥
RefusesText (no_row place byte) (Refused reply) = Gives reply (refusal (text_fault_line (NoRow place byte)))
RefusesText (open_comment place) (Refused reply) = Gives reply (refusal (text_fault_line (OpenComment place)))

-- a run that ended is the one of the definition
pub record IsRunResult (r : RunEnd) (ran : FinishedRun) : Type 0 where
  pub ending_is : ran.ending ≡ r.ending
  pub state_is : ran.machine ≡ r.state
  pub codes_are : ran.paper.codes ≡ r.codes

-- the words in a window can be printed from a state: they are within the store, and the count of orders has room
abbrev pub IsPrintableIn : State → Window → Type 0
IsPrintableIn s w = IsWindowOf s.size w × (s.orders + enough_orders ≤ 2 ^ 63)
