-- How the stages of a command relate to the outcome that is due: the input, what is written on `out` before the last line,
-- and that line (this project's own rules).
use Rattle.std.specs.Prelude.{◌≡◌, ℕ, ◌+◌, ◌<◌, ◌≤◌, Bool, true, false, [], length, Result, Ok, Err, Vec}
use Rattle.std.specs.declared.alloc.Global.{Global}
use Rattle.ed_io.specs.Bytes.{IsAtEnd, Loses}
use Rattle.ed_io.specs.Causes.{next_count}
use Rattle.ed_io.specs.declared.stop.WriteStop.{WriteStop}
use Rattle.ed_io.specs.declared.stop.WriteStop.TheVariants.{Failed, Memory}
use Rattle.ed_words.specs.Texts.{Text}
use Rattle.ed_tapes.specs.declared.input.TheConstants.{INPUT_BYTES}
use Rattle.ed_tapes.specs.Outcome.{Outcome, no_memory, read_fault, too_long_outcome}
use Rattle.ed_tapes.specs.Answer.{Answer}
use Rattle.ed_tapes.specs.Replies.{ForInput}
use Rattle.ed_tapes.specs.declared.reply.Reply.{Reply}
use Rattle.ed_tapes.specs.declared.reply.Rejection.{Rejection}
use Rattle.ed_tapes.specs.declared.reply.Rejection.TheVariants as rejection
use Rattle.ed_devices.specs.Devices.{Device, FailedOnce, NeverFailed, WritesLastLine, Wrote, WrotePart}
use Rattle.ed_devices.specs.declared.devices.Rest.{Rest}
use Rattle.ed_devices.specs.declared.devices.InputStop.{InputStop}
use Rattle.ed_devices.specs.declared.devices.InputStop.TheVariants as input

-- ---- the input

-- no input, if none is read, and the source is unchanged; or the whole input, if it is not too long
abbrev pub HasInput : Bool → Device → Result (Vec ℕ Global) InputStop → Type 0
HasInput false source (Ok v) = (length v.items ≤ INPUT_BYTES) × (source.after ≡ source.before) × NeverFailed source
HasInput true source (Ok v) = (length v.items ≤ INPUT_BYTES) × Loses source.before source.after v.items
    × IsAtEnd source.after × NeverFailed source
HasInput reads source (Err input.Failed) = (reads ≡ true) × FailedOnce source
HasInput reads source (Err input.Memory) = NeverFailed source
HasInput reads source (Err input.TooLong) =
    (reads ≡ true) × ((bytes : Text) × (length bytes ≡ INPUT_BYTES + 1) × Loses source.before source.after bytes)
    × NeverFailed source

-- the source's count of faults after it was read: one more if a read failed, else unchanged
abbrev pub input_faults : {T : Type 0} → Result T InputStop → ℕ → ℕ
input_faults (Ok v) before = before
input_faults (Err input.Failed) before = next_count before
input_faults (Err input.Memory) before = before
input_faults (Err input.TooLong) before = before

-- the outcome if there is no input, for this reason
abbrev pub unread_outcome : InputStop → Outcome
unread_outcome input.Failed = record { out = []; note = read_fault; status = 8 }
unread_outcome input.Memory = record { out = []; note = no_memory; status = 10 }
unread_outcome input.TooLong = too_long_outcome

-- ---- a command

-- all that is due on `out` has been written; the line and the status are still due
pub record WritesNote (out : Device) (line : Text) (status : ℕ) (o : Outcome) : Type 0 where
  pub wrote : Wrote out o.out
  pub note_is : line ≡ o.note
  pub status_is : status ≡ o.status

-- a command was carried out on an input, as far as `out` is concerned
abbrev pub Carried : Answer → Text → Device → Result Rest WriteStop → Type 0
Carried answer input out (Ok rest) = (rest.status < 8)
    × ForInput answer input (WritesNote out rest.note.items rest.status) × NeverFailed out
Carried answer input out (Err Failed) = FailedOnce out × ForInput answer input (λ o. WrotePart out o.out)
Carried answer input out (Err Memory) = NeverFailed out × ForInput answer input (λ o. WrotePart out o.out)

-- the text of a reply was written on `out`
abbrev pub WritesText : Reply → Device → Result Rest WriteStop → Type 0
WritesText reply out (Ok rest) = Wrote out reply.out.items × (rest.note ≡ reply.note)
    × (rest.status ≡ reply.status) × NeverFailed out
WritesText reply out (Err Failed) = FailedOnce out × WrotePart out reply.out.items
WritesText reply out (Err Memory) = ⊥

-- a reply was written on `out`, whether it refuses the input or not
abbrev pub WritesReply : Result Reply Rejection → Device → Result Rest WriteStop → Type 0
WritesReply (Ok reply) out r = WritesText reply out r
WritesReply (Err (rejection.Refused reply)) out r = WritesText reply out r
WritesReply (Err rejection.Memory) out (Ok rest) = ⊥
WritesReply (Err rejection.Memory) out (Err Failed) = ⊥
WritesReply (Err rejection.Memory) out (Err Memory) = Wrote out [] × NeverFailed out

-- the last line of a command that was carried out, or for which no memory was found; none if a write on `out` failed
abbrev pub WritesEnd : Result Rest WriteStop → Device → ℕ → Type 0
WritesEnd (Ok rest) note status = WritesLastLine note rest.note.items rest.status status
WritesEnd (Err Failed) note status = (status ≡ 9) × Wrote note [] × NeverFailed note
WritesEnd (Err Memory) note status = WritesLastLine note no_memory 10 status
