use Rattle.std.proofs.Common.{rules}
use Rattle.ed_headline.proofs.EachSource.{each_source as comes, one_answer}
use Rattle.ed_headline.proofs.Entries.{each_source, entry_state-loaded}
use Rattle.ed_headline.proofs.EntryWords.{each_entry_store_is}
use Rattle.ed_answers.proofs.entering.enter.Goals as goal

pub returns-in_err-rows : goal.returns-in_err-rows
returns-in_err-rows c =
    record { entry = search rules; one = one_answer; comes = comes; law = each_source; words = each_entry_store_is }

pub returns-in_err-machine : goal.returns-in_err-machine
returns-in_err-machine c =
    record { entry = search rules; one = one_answer; comes = comes; law = each_source; words = each_entry_store_is }

pub returns : goal.returns
returns c = record {
  entry = λ lines is. entry_state-loaded is c.in_ok-machine.ensures.is c.in_ok-rows.ensures.is c.load.ensures.loads;
  one = one_answer;
  comes = comes;
  law = each_source;
  words = each_entry_store_is;
}
