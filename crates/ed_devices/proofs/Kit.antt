-- The names that the proofs of this crate cite, passed on from one place. Declares nothing.
pub use Rattle.std.proofs.Common.{Vec, Bool, drop, length-append, true}
pub use Rattle.std.proofs.lemmas.Result.{err_from_is_err_and}
pub use Rattle.std.specs.declared.alloc.Global.{Global}
pub use Rattle.ed_io.specs.Bytes.{Loses}
pub use Rattle.ed_io.specs.Causes.{next_count}
pub use Rattle.ed_io.specs.declared.stop.WriteStop.{WriteStop}
pub use Rattle.ed_io.specs.declared.stop.WriteStop.TheVariants.{Failed, Memory}
pub use Rattle.ed_tapes.specs.Answer.{Answer, HasOneOutcome, known, of_input, of_made}
pub use Rattle.ed_tapes.specs.Replies.{ForInput}
pub use Rattle.ed_tapes.specs.declared.input.TheConstants.{INPUT_BYTES}
pub use Rattle.ed_tapes.specs.declared.reply.Rejection.{Rejection}
pub use Rattle.ed_tapes.specs.declared.reply.Reply.{Reply}
pub use Rattle.ed_tapes.proofs.Kit.{[], ap, append-nil, arith, Err, inl, inr, length, List, None, Ok, Option, refl, Result}
pub use Rattle.ed_tapes.proofs.Kit.{rules, Some, subst, sym, ℕ, ◌++◌, ◌+◌, ◌<◌, ◌∙◌, ◌≡◌, ◌≢◌, ◌≤◌, ◌⊎◌, Text, reading, rows}
pub use Rattle.ed_tapes.proofs.Kit.{exactly, of_rows, Outcome, Gives, Replies}
pub use Rattle.ed_devices.specs.Devices.{device, Device, WritesLastLine, Wrote}
pub use Rattle.ed_devices.specs.Ends.{ForDue, ProgramEnded}
pub use Rattle.ed_devices.specs.Stages.{Carried, HasInput, WritesNote}
pub use Rattle.ed_devices.specs.declared.devices.InputStop.{InputStop}
pub use Rattle.ed_devices.specs.declared.devices.Rest.{Rest}
pub use Rattle.ed_devices.proofs.FirstParts.{none_written}
