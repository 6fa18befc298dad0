-- Each answer to a source gives it one outcome.
use Rattle.ed_headline.proofs.Kit.{Size, Line, Text, List, Outcome, of_source, OfSource}
use Rattle.ed_tapes.specs.Answer.{HasOneOutcome, of_made}
use Rattle.ed_tapes.proofs.OneOutcome.{some_within, within_once}
use Rattle.ed_headline.proofs.Sources.{some_outcome, source_outcome}
use Rattle.std.proofs.Common.{rules}

pub source_once : (z : Size) (accepted : List Line → Outcome) → HasOneOutcome (of_source z accepted)
source_once z accepted = record {
  some = λ input. let s = some_outcome z accepted input in some_within (OfSource z accepted) input s.0 s.1;
  once = λ input o other. within_once (OfSource z accepted) input o other (source_outcome z accepted input o other);
}

-- a source that the program makes
pub made_once : (z : Size) (accepted : List Line → Outcome) (text : Text)
    → HasOneOutcome (of_made (OfSource z accepted text))
made_once z accepted text = search (rules, some_outcome, source_outcome)
