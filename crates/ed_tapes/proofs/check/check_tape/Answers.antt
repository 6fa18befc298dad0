use Rattle.ed_tapes.proofs.Kit.{arith, IsChecked}
use Rattle.ed_tapes.proofs.Checks.{checked_one}
use Rattle.ed_tapes.proofs.Replies.{none_replied, refusal_replied, rows_replied}
use Rattle.ed_tapes.proofs.check.check_tape.Goals as goal

pub returns-in_err-rows : goal.returns-in_err-rows
returns-in_err-rows c =
    refusal_replied _ c.args.input.now _ _
    (checked_one c.args.settings) c.in_err-rows.ensures.is c.from_residual.ensures

pub returns-in_err-check_rows : goal.returns-in_err-check_rows
returns-in_err-check_rows c =
    none_replied _ c.args.input.now _ (checked_one c.args.settings) c.from_residual-in_err-check_rows.ensures

pub check_rows-requires : goal.check_rows-requires
check_rows-requires c = omega (arith, c.in_ok-rows.ensures.few, c.deref.ensures.len, c.requires)

pub returns : goal.returns
returns c =
    rows_replied (IsChecked c.args.settings) c.args.input.now _ c.in_ok-rows.ensures.is c.deref.ensures.value
    c.in_ok-check_rows.ensures
