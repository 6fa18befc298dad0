use Rattle.ed_symbols.proofs.Kit.{arith, rules}
use Rattle.ed_symbols.proofs.location_counter.LocationCounter.after_statement.Goals as goal

pub overflow_add-result : goal.overflow_add-result
overflow_add-result c = omega arith

pub overflow_cast-result : goal.overflow_cast-result
overflow_cast-result c = omega arith

pub overflow_add-result-in-Some-Text : goal.overflow_add-result-in-Some-Text
overflow_add-result-in-Some-Text c = omega arith

pub overflow_add-result-in-Some-Long : goal.overflow_add-result-in-Some-Long
overflow_add-result-in-Some-Long c = omega arith

pub overflow_add-result-in-Some-Segment : goal.overflow_add-result-in-Some-Segment
overflow_add-result-in-Some-Segment c = omega arith

pub overflow_add-result-in-Some-Fetch : goal.overflow_add-result-in-Some-Fetch
overflow_add-result-in-Some-Fetch c = omega arith

pub overflow_add-result-in-Some-Fetch-2 : goal.overflow_add-result-in-Some-Fetch-2
overflow_add-result-in-Some-Fetch-2 c = omega arith

pub returns-in-None : goal.returns-in-None
returns-in-None c = record { is = search rules; place = omega arith; segments = omega arith }

pub returns-in-None-2 : goal.returns-in-None-2
returns-in-None-2 c = record { is = search rules; place = omega arith; segments = omega arith }

pub returns-in-Some-Text : goal.returns-in-Some-Text
returns-in-Some-Text c = record { is = search rules; place = omega arith; segments = omega arith }

pub returns-in-Some-Long : goal.returns-in-Some-Long
returns-in-Some-Long c = record { is = search rules; place = omega arith; segments = omega arith }

pub returns-in-Some-Order : goal.returns-in-Some-Order
returns-in-Some-Order c = record { is = search rules; place = omega arith; segments = omega arith }

pub returns-in-Some-Fetch : goal.returns-in-Some-Fetch
returns-in-Some-Fetch c = record { is = search rules; place = omega arith; segments = omega arith }

pub returns-in-Some-Segment : goal.returns-in-Some-Segment
returns-in-Some-Segment c = record { is = search rules; place = omega arith; segments = omega arith }
