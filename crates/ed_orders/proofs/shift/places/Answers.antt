use Rattle.ed_orders.proofs.Kit.{ap, arith, ◌+◌, trailing_zeros, w32, places}
use Rattle.ed_orders.proofs.Shifts.{places_are, places_within}
use Rattle.ed_orders.proofs.shift.places.Goals as goal

pub returns-clause-is : goal.returns-clause-is
unfolding places
returns-clause-is c = ap (λ n. trailing_zeros w32 n + 1) c.value.ensures.is

pub returns-clause-law : goal.returns-clause-law
unfolding places
returns-clause-law c = rw c.value.ensures.is (places_are c.args.word c.requires (omega arith))

pub returns-clause-high : goal.returns-clause-high
unfolding places
returns-clause-high c = places_within c.value.result 17 (omega arith) (omega arith)
