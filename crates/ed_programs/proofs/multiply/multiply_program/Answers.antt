use Rattle.ed_programs.proofs.Kit.{arith, prints_as}
use Rattle.ed_programs.proofs.MultiplyRuns.{each_product}
use Rattle.ed_programs.proofs.multiply.multiply_program.Goals as goal

pub returns-clause-law : goal.returns-clause-law
returns-clause-law c =
    let a = c.args.left in let b = c.args.right in let d = c.args.root in
    let product = c.product_of.ensures in let square = c.product_of-else-product_of-ge-LIMIT.ensures in
    let small = c.if-product_of-ge-LIMIT.false in let small_d = c.if-product_of-ge-LIMIT-2.false in
    prints_as _ c.filled_program.result c.filled_program.ensures
    (each_product a b d c.ranges.left.fits c.ranges.right.fits (omega arith) c.ranges.root.fits (omega arith))
