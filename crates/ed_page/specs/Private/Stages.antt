-- How the texts and pictures that are written relate to what the program answers.
use Rattle.std.specs.Prelude.{◌≡◌, ◌≢◌, ℕ, List, Option, None, Some, IfSome, Result, Ok, Err}
use Rattle.ed_machine.specs.State.{State}
use Rattle.ed_printer.specs.Paper.{paper}
use Rattle.ed_words.specs.Texts.{Text}
use Rattle.ed_words.specs.declared.size.Size.{Size}
use Rattle.ed_store.specs.Cells.{cleared_cells}
use Rattle.ed_notation.specs.Checks.{Accepts}
use Rattle.ed_notation.specs.Reports.{Report}
use Rattle.ed_tapes.specs.Tapes.{opening_notation}
use Rattle.ed_tapes.specs.Outcome.{Outcome}
use Rattle.ed_tapes.specs.Replies.{Gives}
use Rattle.ed_tapes.specs.Runs.{status_of}
use Rattle.ed_tapes.specs.declared.reply.Rejection.{Rejection}
use Rattle.ed_tapes.specs.declared.reply.Rejection.TheVariants.{Memory, Refused}
use Rattle.ed_tapes.specs.declared.reply.Reply.{Reply}
use Rattle.ed_answers.specs.declared.source.NotedRun.{NotedRun}
use Rattle.ed_page.specs.Answers.{Buffers, HasItsCause, HasPictureRoom, HasBufferRoom, ShowsNone, HoldsText}
use Rattle.ed_page.specs.Answers.{TextBuffers}
use Rattle.ed_page.specs.Pictures.{Pictures}
use Rattle.ed_page.specs.declared.running.Shown.{Shown}
use Rattle.ed_page.specs.declared.writing.Lengths.{Lengths}

-- the outcome of two texts and a status
abbrev pub told_outcome : (answer line : Text) → ℕ → Outcome
told_outcome answer line status = record { out = answer; note = line; status = status }

-- a reply is one that a text may have
abbrev pub IsReplied : (Text → Outcome → Type 0) → Text → Reply → Type 0
IsReplied answers text reply = (o : Outcome) × answers text o × Gives reply o

-- the same of an answer, whether it refuses the text or not
abbrev pub IsAnswered : (Text → Outcome → Type 0) → Text → Result Reply Rejection → Type 0
IsAnswered answers text (Ok reply) = IsReplied answers text reply
IsAnswered answers text (Err (Refused reply)) = IsReplied answers text reply
IsAnswered answers text (Err Memory) = Unit {0}

-- a machine is in the state in which the run of a text ends, if there is such a state; otherwise there is no machine
pub record IsMachineOf (Ends : Text → State → Type 0) (text : Text) (machine : Option State) : Type 0 where
  pub some : (m : State) → Ends text m → machine ≡ Some m
  pub none : ((m : State) → Ends text m → ⊥) → machine ≡ None

-- a well-formed tape has this number of rows up to its entry
pub record HasRowsToEntry (z : Size) (rows : List ℕ) (count : ℕ) : Type 0 where
  pub report : Report
  pub accepts : Accepts z cleared_cells.words opening_notation 9 rows report
  pub count_is : count ≡ report.rows

-- what is shown is a reply that a text may have, and the machine in which its run ends
abbrev pub IsPicture : (Text → Outcome → Type 0) → (Text → State → Type 0) → Text → Shown → Type 0
IsPicture answers Ends text shown = IsReplied answers text shown.reply × IsMachineOf Ends text shown.machine

-- what the program answers of a run with its note
abbrev pub noted_outcome : NotedRun → Outcome
noted_outcome noted =
    told_outcome (paper noted.ran.paper.codes) noted.note.items (status_of noted.ran.ending)

-- a run is that of a text, or the text is refused
abbrev pub Runs : (Text → Outcome → Type 0) → (Text → State → Type 0) → Text → Result NotedRun Rejection → Type 0
Runs answers Ends text (Ok noted) =
    answers text (noted_outcome noted) × IsMachineOf Ends text (Some noted.ran.machine)
Runs answers Ends text (Err (Refused reply)) = IsReplied answers text reply × IsMachineOf Ends text None
Runs answers Ends text (Err Memory) = Unit {0}

-- two texts were written at the beginnings of two buffers, and these are their lengths; or there was no room, and
-- nothing was written
abbrev pub AreTextsWritten : Outcome → (out note out_after note_after : List ℕ) → Option Lengths → Type 0
AreTextsWritten o out note out_after note_after (Some l) =
    HasBufferRoom o out note × HoldsText o out note out_after note_after l.out l.note o.status
AreTextsWritten o out note out_after note_after None =
    (HasBufferRoom o out note → ⊥) × (out_after ≡ out) × (note_after ≡ note)

-- an outcome was written into two buffers, or there was no room
abbrev pub IsWrittenOut : Outcome → (before after : TextBuffers) → ℕ → Type 0
IsWrittenOut o before after answer = (answer ≢ 10)
    × HasItsCause (HasBufferRoom o before.out before.note) (after ≡ before)
    (HoldsText o before.out before.note after.out after.note after.lengths.out after.lengths.note answer) answer

-- buffers show an outcome, and a machine if there is one
pub record ShowsMachine (o : Outcome) (machine : Option State) (before after : Buffers) (answer : ℕ) : Type 0 where
  pub told : HoldsText o before.paper before.note after.paper after.note after.registers.printed after.registers.noted
      answer
  pub state : IfSome machine (λ m. Pictures m after.words after.digits after.registers)
  pub none : machine ≡ None → ShowsNone before after

-- the outcome and the machine were written into buffers, or there was no room
abbrev pub WritesBuffers : Outcome → Option State → (before after : Buffers) → ℕ → Type 0
WritesBuffers o machine before after answer = (answer ≢ 10)
    × HasItsCause (HasPictureRoom o before) (after ≡ before) (ShowsMachine o machine before after answer) answer
