use Rattle.ed_syntax.proofs.Kit.{arith, refl, rules, true, ◌&&◌, ◌==◌, ◌≡◌, or-true, common_steps, err_from_is_err_and}
use Rattle.ed_syntax.proofs.Kit.{is_second}
use Rattle.ed_writer.proofs.Added.{few_anyway, in_any_case}
use Rattle.ed_writer.proofs.program.push_line.Goals as goal

pub returns-in-Some-statement-clause-is : goal.returns-in-Some-statement-clause-is
returns-in-Some-statement-clause-is c = grind (arith, common_steps)

pub returns-in-Some-statement-clause-few : goal.returns-in-Some-statement-clause-few
returns-in-Some-statement-clause-few c =
    let told = c.push_statement in rw c.in-Some-statement.is (few_anyway told.result _ _ told.ensures.few)

pub returns-in-None-clause-is : goal.returns-in-None-clause-is
returns-in-None-clause-is c = grind (arith, common_steps)

pub returns-in-None-clause-few : goal.returns-in-None-clause-few
returns-in-None-clause-few c = rw c.in-None.is (or-true _)

pub returns-then-line-eq1 : goal.returns-then-line-eq1
returns-then-line-eq1 c =
    let first : (is_second c.args.version && c.args.line.now.number == 1) ≡ true = search rules in
    rw first (record { is = c.push.ensures; few = in_any_case c.push.result refl })

pub returns-in_err-push : goal.returns-in_err-push
returns-in_err-push c =
    let p = err_from_is_err_and c.from_residual.result c.from_residual.ensures.1 in
    rw p.1 (record { is = tt; few = tt })

pub returns-in_err-push-2 : goal.returns-in_err-push-2
returns-in_err-push-2 c =
    let p = err_from_is_err_and c.from_residual-in_err-push-2.result c.from_residual-in_err-push-2.ensures.1 in
    rw p.1 (record { is = tt; few = tt })
