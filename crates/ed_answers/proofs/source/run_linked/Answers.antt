use Rattle.ed_headline.proofs.Kit.{rules}
use Rattle.ed_answers.proofs.source.run_linked.Goals as goal

pub run_entered-requires : goal.run_entered-requires
run_entered-requires c = record { linked = c.requires; entry = c.in_ok-entered.ensures.entry }

pub returns : goal.returns
returns c = record {
  is = λ lines linked. record { ran = c.in_ok-ran.ensures.is lines linked; note_is = search rules };
  size = c.in_ok-ran.ensures.size;
  orders = c.in_ok-ran.ensures.orders;
}
