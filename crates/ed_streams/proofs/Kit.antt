-- The names that the proofs of this crate cite, passed on from one place. Declares nothing.
pub use Rattle.ed_run.specs.declared.settings.Settings.{Settings}
pub use Rattle.ed_io.specs.Causes.{stop_faults}
pub use Rattle.ed_io.specs.declared.stop.WriteStop.{WriteStop}
pub use Rattle.ed_io.specs.declared.stop.WriteStop.TheVariants.{Failed, Memory}
pub use Rattle.ed_io.proofs.Calls.{gains_none}
pub use Rattle.ed_tapes.specs.Answer.{Answer, known, of_input}
pub use Rattle.ed_tapes.specs.Replies.{ForInput}
pub use Rattle.ed_tapes.proofs.Kit.{[], ap, append-nil, Err, List, Ok, refl, subst, sym, ℕ, ◌∙◌, ◌≡◌, State, exactly}
pub use Rattle.ed_tapes.proofs.Kit.{of_rows}
pub use Rattle.ed_tapes.proofs.Replies.{exactly_one, Replies-rejected}
pub use Rattle.ed_stepper.proofs.Kit.{err_from_is_err_and}
pub use Rattle.ed_devices.specs.Devices.{device, Device, Wrote, WrotePart}
pub use Rattle.ed_streams.specs.Parts.{IsInParts}
pub use Rattle.ed_devices.specs.Stages.{Carried, WritesNote}
pub use Rattle.ed_streams.specs.Traces.{trace_outcome, traced_from}
pub use Rattle.ed_devices.proofs.FirstParts.{none_written}
