-- The run of each kind of program has an outcome.
use Rattle.ed_page.proofs.Kit.{Settings, IsDue, of_input, Text, Outcome, run_outcome, answers_of, tape_outcome_by}
use Rattle.ed_headline.proofs.OneOutcome.{source_once}
use Rattle.ed_tapes.proofs.OneOutcome.{rows_once}
use Rattle.ed_tapes.proofs.Replies.{exactly_one}
use Rattle.ed_page.specs.declared.running.ProgramKind.{ProgramKind}
use Rattle.ed_page.specs.declared.running.ProgramKind.TheVariants.{Tape, Source}

pub program_due : (p : ProgramKind) (s : Settings) (text : Text)
    → (o : Outcome) × IsDue (of_input (answers_of p s)) text o
program_due (Tape orders) s text = (rows_once _ (exactly_one (tape_outcome_by orders s))).some text
program_due Source s text = (source_once s.size (run_outcome s)).some text
