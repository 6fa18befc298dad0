-- What holds of every run over devices in memory whose calls never fail: it has the outcome that is due, unless no
-- memory is found (this project's own rule).
use Rattle.std.specs.Prelude.{◌≡◌, ◌⊎◌, ℕ, false, Option, Some}
use Rattle.ed_io.specs.Memory.{Roll, new_roll, reported_bytes}
use Rattle.ed_words.specs.Texts.{Text}
use Rattle.ed_command.specs.declared.command.Command.{Command}
use Rattle.ed_tapes.specs.Outcome.{Outcome}
use Rattle.ed_tapes.specs.Answer.{Answer, IsDue}
use Rattle.ed_devices.specs.Ends.{ProgramEnded}
use Rattle.ed_devices.specs.Devices.{Device, device}
use Rattle.ed_top.specs.Output.{output}

-- a source in memory whose calls never fail, with these bytes left before and after the call
abbrev pub sure_source : Text → Text → Device
sure_source input left = device (λ bytes. Some bytes) (λ _. 0) input left

-- a new sink in memory whose calls never fail, with room for `room` bytes, and the sink after the call
abbrev pub sure_sink : ℕ → Roll → Device
sure_sink room after = device reported_bytes (λ _. 0) (new_roll room) after

-- the status and both texts are exactly those of the outcome that is due to the input
pub record IsWhole (answer : Answer) (input : Text) (out note : Roll) (status : ℕ) : Type 0 where
  pub due : Outcome
  pub is_due : IsDue answer input due
  pub status_is : status ≡ due.status
  pub out_is : out.held ≡ due.out
  pub note_is : note.held ≡ due.note

-- for all words and every input: if both sinks had room for all that they took, the run is whole, or its status is 10
abbrev pub EachRunIsComplete : Type 0
EachRunIsComplete = (line : Option Command) (input left : Text) (out_room note_room : ℕ) (out note : Roll) (status : ℕ)
    → ProgramEnded (output line) (sure_source input left) (sure_sink out_room out) (sure_sink note_room note)
    status
    → out.is_over ≡ false → note.is_over ≡ false → (status ≡ 10) ⊎ IsWhole (output line) input out note status
