-- The names that the proofs of this crate cite, passed on from one place. Declares nothing.
pub use Rattle.std.proofs.Common.{Vec}
pub use Rattle.std.specs.declared.alloc.Global.{Global}
pub use Rattle.ed_run.specs.declared.settings.Settings.{Settings}
pub use Rattle.ed_syntax.proofs.SourceLaws.{one_lines}
pub use Rattle.ed_io.specs.Causes.{next_count}
pub use Rattle.ed_io.proofs.Calls.{gains_none}
pub use Rattle.ed_report.specs.Notes.{no_text_line}
pub use Rattle.ed_tapes.specs.Answer.{Answer, HasOneOutcome, known, of_input, of_made}
pub use Rattle.ed_tapes.specs.Outcome.{usage_outcome}
pub use Rattle.ed_tapes.specs.Replies.{ForInput}
pub use Rattle.ed_tapes.specs.declared.input.TheConstants.{INPUT_BYTES}
pub use Rattle.ed_tapes.specs.declared.reply.Rejection.{Rejection}
pub use Rattle.ed_tapes.specs.declared.reply.Rejection.TheVariants.{Refused}
pub use Rattle.ed_tapes.specs.declared.reply.Reply.{Reply}
pub use Rattle.ed_headline.proofs.Kit.{[], ap, arith, Bool, Err, false, IfOk, inl, inr, IsErr}
pub use Rattle.ed_headline.proofs.Kit.{IsErrAnd, length, List, None, Ok, Option, refl, Result, rules, Some, subst, sym}
pub use Rattle.ed_headline.proofs.Kit.{true, ℕ, ◌++◌, ◌+◌, ◌∙◌, ◌≡◌, ◌≢◌, ◌≤◌, ◌⊎◌, Text, Reading, reading, rows}
pub use Rattle.ed_headline.proofs.Kit.{tape, done, Outcome, refusal, Gives, Replies, OfSource}
pub use Rattle.ed_headline.proofs.Kit.{run_outcome}
pub use Rattle.ed_tapes.proofs.Replies.{exactly_one}
pub use Rattle.ed_headline.proofs.Sources.{some_outcome}
pub use Rattle.ed_stepper.specs.Inputs.{IsDivided}
pub use Rattle.ed_stepper.specs.ScriptLines.{CommandList, IsFirstBadLine}
pub use Rattle.ed_stepper.specs.declared.inputs.TextKind.{TextKind}
pub use Rattle.ed_stepper.proofs.Kit.{Gains, Input, IsScript, play, Stand}
pub use Rattle.ed_sources.specs.CallSources.{call_text}
unfoldable pub use Rattle.ed_sources.specs.DemoSources.{demo_text}
pub use Rattle.ed_devices.specs.Ends.{ForDue, ProgramEnded}
pub use Rattle.ed_devices.specs.Devices.{device, Device}
pub use Rattle.ed_top.specs.Output.{answer, output}
pub use Rattle.ed_devices.specs.Stages.{Carried, HasInput}
pub use Rattle.ed_top.specs.Scripts.{on_rows, OnInput, OnText, played_outcome, StepOutcome}
pub use Rattle.ed_streams.specs.Traces.{trace_outcome}
