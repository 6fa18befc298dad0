use Rattle.ed_symbols.proofs.Kit.{arith}
use Rattle.std.proofs.lemmas.Int.{ints}
use Rattle.ed_symbols.proofs.faults.value.Goals as goal

pub overflow_add-result : goal.overflow_add-result
overflow_add-result c = omega (arith, ints)

pub overflow_sub-result : goal.overflow_sub-result
overflow_sub-result c = omega (arith, ints)

pub overflow_add-result-else-minus : goal.overflow_add-result-else-minus
overflow_add-result-else-minus c = omega (arith, ints)
