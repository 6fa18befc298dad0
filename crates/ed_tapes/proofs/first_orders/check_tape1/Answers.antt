use Rattle.ed_tapes.proofs.Kit.{arith, IsChecked1}
use Rattle.ed_tapes.proofs.FirstChecks.{checked1_one}
use Rattle.ed_tapes.proofs.Replies.{none_replied, refusal_replied, rows_replied}
use Rattle.ed_tapes.proofs.first_orders.check_tape1.Goals as goal

pub returns-in_err-rows : goal.returns-in_err-rows
returns-in_err-rows c =
    refusal_replied IsChecked1 c.args.input.now _ _ checked1_one c.in_err-rows.ensures.is c.from_residual.ensures

pub returns-in_err-check_rows1 : goal.returns-in_err-check_rows1
returns-in_err-check_rows1 c =
    none_replied IsChecked1 c.args.input.now _ checked1_one c.from_residual-in_err-check_rows1.ensures

pub check_rows1-requires : goal.check_rows1-requires
check_rows1-requires c = omega (arith, c.in_ok-rows.ensures.few, c.deref.ensures.len, c.requires)

pub returns : goal.returns
returns c =
    rows_replied IsChecked1 c.args.input.now _ c.in_ok-rows.ensures.is c.deref.ensures.value
    c.in_ok-check_rows1.ensures
