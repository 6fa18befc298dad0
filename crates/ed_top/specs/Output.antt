-- The output of the program: its answer to a command line and an input (this project's own rules).
use Rattle.std.specs.Prelude.{Option, Some, None}
use Rattle.ed_run.specs.declared.settings.Settings.{Settings}
use Rattle.ed_report.specs.Catalogue.{library_text}
use Rattle.ed_command.specs.declared.command.Command.{Command}
use Rattle.ed_command.specs.declared.command.Action.{Action}
use Rattle.ed_command.specs.declared.command.Action.TheVariants.{Tape, CheckTape, Run, Punch, Listing, Library, Demo}
use Rattle.ed_command.specs.declared.command.Action.TheVariants.{Call as CallOf, Tape1, CheckTape1, Step, Trace, Parts}
use Rattle.ed_tapes.specs.Answer.{Answer, HasOneOutcome, exactly, known, of_input, of_rows}
use Rattle.ed_tapes.specs.FirstOrders.{check_tape1_answer, tape1_answer}
use Rattle.ed_tapes.specs.Outcome.{done, usage_outcome}
use Rattle.ed_headline.specs.Sources.{listing_answer, punch_answer, run_answer}
use Rattle.ed_tapes.specs.Tapes.{check_tape_answer, tape_answer}
use Rattle.ed_top.specs.Calls.{call_answer}
use Rattle.ed_top.specs.Demos.{demo_answer}
use Rattle.ed_streams.specs.Parts.{IsInParts}
use Rattle.ed_top.specs.Scripts.{StepOutcome}
use Rattle.ed_streams.specs.Traces.{trace_outcome}

-- the answer of each command
abbrev pub answer : Action → Settings → Answer
answer Tape s = tape_answer s
answer CheckTape s = check_tape_answer s
answer Run s = run_answer s
answer Punch s = punch_answer s
answer Listing s = listing_answer s
answer (CallOf call) s = call_answer call s
answer Library s = known (done library_text)
answer (Demo n) s = demo_answer n s
answer Tape1 s = tape1_answer s
answer CheckTape1 s = check_tape1_answer
answer Step s = of_input (StepOutcome s)
answer Trace s = of_rows (exactly (trace_outcome s))
answer Parts s = of_rows (IsInParts s)

-- the answer to the command of a line of words, or to words that are not a command
abbrev pub output : Option Command → Answer
output None = known usage_outcome
output (Some command) = answer command.action command.settings

-- for all words, each input has exactly one outcome
abbrev pub EachLineHasOneOutcome : Type 0
EachLineHasOneOutcome = (line : Option Command) → HasOneOutcome (output line)
