use Rattle.ed_programs.proofs.Kit.{arith, prints_as}
use Rattle.ed_programs.proofs.FractionRuns.{each_fraction}
use Rattle.ed_programs.proofs.fraction.fraction_program.Goals as goal

pub returns-clause-law : goal.returns-clause-law
returns-clause-law c =
    let some = c.if-lower-eq0.false in
    let few = c.if-lower-gt-MOST_LOWER.false in
    prints_as _ c.filled_program.result c.filled_program.ensures
    (each_fraction c.args.upper c.args.lower c.args.places c.ranges.upper.fits (omega arith) (omega arith)
    c.ranges.places.fits)
