use Rattle.ed_top.proofs.Kit.{gains_none, known, usage_outcome, Err, None, Option, refl, Some, subst, sym, ℕ, ◌≡◌}
use Rattle.ed_top.proofs.Kit.{device, Device, ProgramEnded, output, ◌≢◌}
use Rattle.std.proofs.Common.{map, string_bytes}
use Rattle.ed_command.specs.Answers.{AnswersWords}
use Rattle.ed_command.specs.Lines.{command_line}
use Rattle.ed_command.specs.declared.command.Command.{Command}
use Rattle.ed_command.specs.declared.reading.CommandFault.{CommandFault}
use Rattle.ed_command.specs.declared.reading.CommandFault.TheVariants.{Usage, Memory}
use Rattle.ed_headline.proofs.Sources.{headline}
use Rattle.ed_sources.proofs.CallRuns.{each_call_runs}
use Rattle.ed_top.proofs.Completing.{each_complete}
use Rattle.ed_devices.proofs.Endings.{none_due, with_due, with_no_memory}
use Rattle.ed_top.proofs.OneOutcome.{line_once}
use Rattle.ed_top.proofs.program.edsac.Goals as goal

-- a program that ended as a command requires ended as the words that are that command require
by_line : (words line : Option Command) (source out note : Device) (status : ℕ) → words ≡ line
    → ProgramEnded (output line) source out note status → ProgramEnded (output words) source out note status
by_line words line source out note status is ended =
    subst (λ (l : Option Command). ProgramEnded (output l) source out note status) (sym is) ended

-- words that are refused are not a command
usage_line : (words : Option Command) (fault : CommandFault) → fault ≡ Usage → AnswersWords words (Err fault)
    → words ≡ None
usage_line words Usage is answers = answers
usage_line words Memory is answers = absurd (cc)

-- the status of words that are not a command is neither that of a fault nor that of no memory
eight_not_two : ◌≢◌ {A = ℕ} 8 2
eight_not_two e = cc

ten_not_two : ◌≢◌ {A = ℕ} 10 2
ten_not_two e = cc

pub returns-in-Ok : goal.returns-in-Ok
returns-in-Ok g c =
    record {
      ended = by_line (command_line (map string_bytes c.args.words.now)) (Some c.in-Ok.command) _ _ _ _
          c.in-Ok.ensures.is c.run_command.ensures;
      law = line_once;
      complete = each_complete;
      headline = headline;
      calls = each_call_runs;
    }

pub returns-in-Err-Usage : goal.returns-in-Err-Usage
returns-in-Err-Usage g c =
    let source = device g.S.Source.left g.S.Source.faults c.args.source.now c.args.source.now in
    let out = device g.K.Sink.held g.K.Sink.faults c.args.out.now c.args.out.now in
    record {
      ended = by_line (command_line (map string_bytes c.args.words.now)) None _ _ _ _
          (usage_line _ _ c.in-Err-Usage.field-0-is c.in-Err-Usage.ensures.is)
          (with_due (known usage_outcome) source out refl refl c.write_note.ensures eight_not_two
          ten_not_two (λ bytes told. told)
          (record { wrote = gains_none out.before; note_is = refl; status_is = refl }));
      law = line_once;
      complete = each_complete;
      headline = headline;
      calls = each_call_runs;
    }

pub returns-in-Err-Memory : goal.returns-in-Err-Memory
returns-in-Err-Memory g c =
    let line = command_line (map string_bytes c.args.words.now) in
    let source = device g.S.Source.left g.S.Source.faults c.args.source.now c.args.source.now in
    let out = device g.K.Sink.held g.K.Sink.faults c.args.out.now c.args.out.now in
    record {
      ended = with_no_memory (output line) source out _ _ refl refl
          (none_due (output line) source out (line_once line) (gains_none out.before))
          c.report_no_memory.ensures;
      law = line_once;
      complete = each_complete;
      headline = headline;
      calls = each_call_runs;
    }
