use Rattle.ed_syntax.proofs.Kit.{arith, refl}
use Rattle.ed_syntax.proofs.Faults.{number_in_range, number_out_of_range, no_number}
use Rattle.ed_syntax.proofs.operands.single.Goals as goal

pub overflow_cast-result : goal.overflow_cast-result
overflow_cast-result c = omega (arith, c.in-Ok.ensures.within)

pub returns-in_err-name-in-Err-NotThisForm : goal.returns-in_err-name-in-Err-NotThisForm
returns-in_err-name-in-Err-NotThisForm c =
    let n = no_number _ _ _ c.in-Err-NotThisForm.field-0-is c.in-Err-NotThisForm.ensures.is in
    rw (c.from_residual.ensures, n, c.in_err-name-in-Err-NotThisForm.ensures.none) refl

pub returns-in_ok-name-in-Err-NotThisForm : goal.returns-in_ok-name-in-Err-NotThisForm
returns-in_ok-name-in-Err-NotThisForm c =
    let n = no_number _ _ _ c.in-Err-NotThisForm.field-0-is c.in-Err-NotThisForm.ensures.is in
    let name = c.in_ok-name-in-Err-NotThisForm.ensures.some in
    rw (name.0, n, name.1) refl

pub returns-in-Err-OutOfRange : goal.returns-in-Err-OutOfRange
returns-in-Err-OutOfRange c =
    let n = number_out_of_range _ _ _ c.in-Err-OutOfRange.field-0-is c.in-Err-OutOfRange.ensures.is in
    rw (n.0, n.1) refl

pub returns-in-Ok : goal.returns-in-Ok
returns-in-Ok c =
    let n = number_in_range _ _ _ c.in-Ok.ensures.is in
    rw (n.0, n.1) refl
