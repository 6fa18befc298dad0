use Rattle.ed_syntax.proofs.Kit.{arith, refl, rules, ints}
use Rattle.ed_syntax.proofs.Faults.{number_in_range, number_out_of_range, no_number}
use Rattle.ed_syntax.proofs.operands.joined.Goals as goal

pub overflow_cast-number : goal.overflow_cast-number
overflow_cast-number c = omega (arith, c.in-Ok.ensures.within)

pub overflow_sub-plus : goal.overflow_sub-plus
overflow_sub-plus c = omega (arith, ints, c.in-Ok.ensures.within)

pub returns-in_err-first : goal.returns-in_err-first
returns-in_err-first c =
    rw (c.from_residual.ensures, c.in_err-first.ensures.none) refl

pub returns-in-Err-OutOfRange : goal.returns-in-Err-OutOfRange
returns-in-Err-OutOfRange c =
    let n = number_out_of_range _ _ _ c.in-Err-OutOfRange.field-0-is c.in-Err-OutOfRange.ensures.is in
    rw (c.in_ok-first.ensures.some.1, n.0, n.1) refl

pub returns-in_err-second-in-Err-NotThisForm : goal.returns-in_err-second-in-Err-NotThisForm
returns-in_err-second-in-Err-NotThisForm c =
    let n = no_number _ _ _ c.in-Err-NotThisForm.field-0-is c.in-Err-NotThisForm.ensures.is in
    let none = c.in_err-second-in-Err-NotThisForm.ensures.none in
    rw (c.from_residual-in_err-second-in-Err-NotThisForm.ensures, c.in_ok-first.ensures.some.1, n, none) (search rules)

pub returns-in_ok-second-in-Err-NotThisForm : goal.returns-in_ok-second-in-Err-NotThisForm
returns-in_ok-second-in-Err-NotThisForm c =
    let n = no_number _ _ _ c.in-Err-NotThisForm.field-0-is c.in-Err-NotThisForm.ensures.is in
    rw (c.in_ok-first.ensures.some.1, n, c.in_ok-second-in-Err-NotThisForm.ensures.some.1) (search rules)

pub returns-after-minus : goal.returns-after-minus
returns-after-minus c =
    let n = number_in_range _ _ _ c.in-Ok.ensures.is in
    rw (c.in_ok-first.ensures.some.1, n.0, n.1) (search rules)
