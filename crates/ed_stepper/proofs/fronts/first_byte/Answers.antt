use Rattle.ed_stepper.proofs.Kit.{arith}
use Rattle.ed_stepper.proofs.Heads.{position_or_len-found, position_or_len-nowhere, position_or_len-passed}
use Rattle.ed_stepper.proofs.fronts.first_byte.Goals as goal

pub loop-place-preserved : goal.loop-place-preserved
loop-place-preserved c =
    let more = position_or_len-passed c.args.wanted c.args.text.now _ c.loop-place-test.true c.if-byte-wanted.false in
    omega (arith, c.loop-place.invariant, more)

pub returns-then-byte-wanted-clause-is : goal.returns-then-byte-wanted-clause-is
returns-then-byte-wanted-clause-is c =
    let none = position_or_len-found c.args.wanted c.args.text.now _ c.loop-place-test.true c.if-byte-wanted.true in
    omega (arith, c.loop-place.invariant, none)

pub returns-clause-is : goal.returns-clause-is
returns-clause-is c =
    let none = position_or_len-nowhere c.args.wanted c.args.text.now _ c.loop-place-test.false in
    omega (arith, c.loop-place.invariant, none, c.loop-place-test.false, c.loop-place.auto.place-end)
