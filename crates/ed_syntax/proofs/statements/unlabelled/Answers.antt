use Rattle.ed_syntax.proofs.Kit.{None, Some, err_from_is_err_and, Form, Statement}
use Rattle.ed_syntax.proofs.Faults.{made_fault}
use Rattle.ed_syntax.proofs.statements.unlabelled.Goals as goal

pub returns-in_err-statement : goal.returns-in_err-statement
returns-in_err-statement c =
    let p = err_from_is_err_and c.from_residual.result c.from_residual.ensures.1 in
    let form : Statement → Form = λ (s : Statement). record { label = None; statement = Some s } in
    rw (p.1, p.2) (made_fault form _ _ c.in_err-statement.ensures)
