use Rattle.ed_postmortem.proofs.Kit.{arith, ◌+◌}
use Rattle.ed_postmortem.proofs.Needed.{next_codes, no_codes}
use Rattle.ed_postmortem.proofs.printing.codes_needed.Goals as goal

pub loop-done-preserved : goal.loop-done-preserved
loop-done-preserved c = record {
  sum = omega (
    arith,
    next_codes c.args.machine.now.store.words c.args.first c.loop-done.done c.args.count c.loop-done-test.true,
    rw c.word.ensures.is at c.codes_of_word-needed.ensures.is,
    c.loop-done.invariant.sum,
  );
  few = omega (arith, c.codes_of_word-needed.ensures.most, c.loop-done.invariant.few);
}

pub returns : goal.returns
returns c =
    omega (
      arith,
      no_codes c.args.machine.now.store.words (c.args.first + c.loop-done.done) c.loop-done.done c.args.count
          c.loop-done-test.false,
      c.loop-done.invariant.sum,
    )
