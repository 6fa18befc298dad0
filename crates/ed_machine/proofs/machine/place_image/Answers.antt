use Rattle.ed_machine.proofs.Names.{arith}
use Rattle.ed_machine.proofs.Images.{image_step}
use Rattle.ed_machine.proofs.machine.place_image.Goals as goal

pub loop-i-preserved : goal.loop-i-preserved
loop-i-preserved c =
    image_step c.args.image.now c.args.store.now.words
    c.loop-i.invariant c.put_short.ensures.store c.index-image-i.is c.loop-i-test.true
    (omega arith) c.put_short.ensures.is
