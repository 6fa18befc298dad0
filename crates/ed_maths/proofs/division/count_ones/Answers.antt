use Rattle.ed_maths.proofs.Kit.{rules, arith, ℕ, ◌+◌, ◌-◌, ◌≡◌, ones}
use Rattle.ed_maths.proofs.Ones.{ones-counted, ones-none}
use Rattle.ed_maths.proofs.division.count_ones.Goals as goal

pub loop-done-preserved : goal.loop-done-preserved
loop-done-preserved c = search (rules, ones-counted)

at_end : (sum done rest number : ℕ) → done ≡ 16 → sum + ones (16 - done) rest ≡ ones 16 number → sum ≡ ones 16 number
at_end sum done rest number e h = search (rules, ones-none)

pub returns-clause-is : goal.returns-clause-is
returns-clause-is c =
    let last = c.loop-done.auto.done-end in
    let ended = c.loop-done-test.false in
    at_end c.loop-done.sum c.loop-done.done c.loop-done.rest c.args.number (omega arith) c.loop-done.invariant.sum
