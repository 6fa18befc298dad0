use Rattle.ed_syntax.proofs.Kit.{arith, ints}
use Rattle.ed_syntax.proofs.statements.long.Goals as goal

pub overflow_cast-value : goal.overflow_cast-value
overflow_cast-value c = omega (arith, ints)

pub of_number-requires : goal.of_number-requires
of_number-requires c = omega (arith, ints)
