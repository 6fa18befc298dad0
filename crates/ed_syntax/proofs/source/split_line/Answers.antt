use Rattle.ed_syntax.proofs.Kit.{arith, false, take, ◌≡◌, common_steps, take_all, has_end}
use Rattle.std.proofs.lemmas.List.{take_rest}
use Rattle.ed_syntax.proofs.Lines.{takes_ended, takes_last}
use Rattle.ed_syntax.proofs.source.split_line.Goals as goal

pub returns-then-byte-eq10 : goal.returns-then-byte-eq10
returns-then-byte-eq10 c =
    let line = c.without_return.result.now in
    rw take_rest (takes_ended c.args.text.now line c.loop-place.place c.loop-place-test.true c.loop-place.invariant
    c.if-byte-eq10.true c.without_return.ensures)

pub returns : goal.returns
returns c =
    let all : take c.loop-place.place c.args.text.now ≡ c.args.text.now =
    take_all c.loop-place.place c.args.text.now (omega arith) in
    let none : has_end c.args.text.now ≡ false = rw all at c.loop-place.invariant in
    takes_last c.args.text.now c.requires none

pub loop-place-preserved : goal.loop-place-preserved
loop-place-preserved c = grind (arith, common_steps)
