use Rattle.ed_syntax.proofs.Kit.{arith, refl, common_steps, is_second}
use Rattle.ed_syntax.proofs.Faults.{joined_read}
use Rattle.ed_syntax.proofs.operands.operand.Goals as goal

pub returns-in_err-joined-in-Some-Run-default-split_first : goal.returns-in_err-joined-in-Some-Run-default-split_first
returns-in_err-joined-in-Some-Run-default-split_first c =
    let first = c.in-Some-Run-default in
    let second = c.in-Some-Sign-eq43-default in
    let third = c.in-Some-Run-default-split_first in
    let read = joined_read (is_second c.args.version) first.ensures.cases.0 first.field-0-0-is
    second.ensures.cases.0 second.field-0-0-is third.ensures.cases.0 third.field-0-0-is second.sign-test in
    rw (c.from_residual.ensures, read, ← c.joined.ensures, c.in_err-joined-in-Some-Run-default-split_first.was) refl

pub returns-in_ok-joined-in-Some-Run-default-split_first : goal.returns-in_ok-joined-in-Some-Run-default-split_first
returns-in_ok-joined-in-Some-Run-default-split_first c =
    let first = c.in-Some-Run-default in
    let second = c.in-Some-Sign-eq43-default in
    let third = c.in-Some-Run-default-split_first in
    let read = joined_read (is_second c.args.version) first.ensures.cases.0 first.field-0-0-is
    second.ensures.cases.0 second.field-0-0-is third.ensures.cases.0 third.field-0-0-is second.sign-test in
    rw (read, ← c.joined.ensures, c.in_ok-joined-in-Some-Run-default-split_first.was) refl

pub returns-in_err-single-in_default-split_first : goal.returns-in_err-single-in_default-split_first
returns-in_err-single-in_default-split_first c = grind (arith, common_steps)

pub returns-in_ok-single-in_default-split_first : goal.returns-in_ok-single-in_default-split_first
returns-in_ok-single-in_default-split_first c = grind (arith, common_steps)

pub returns-in_default : goal.returns-in_default
returns-in_default c = grind (arith, common_steps)

pub returns-in_default-split_first-2 : goal.returns-in_default-split_first-2
returns-in_default-split_first-2 c = grind (arith, common_steps)
