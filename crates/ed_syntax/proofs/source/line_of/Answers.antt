use Rattle.ed_syntax.proofs.Kit.{rules, sym, ◌∙◌, le-ltb, lt-ltb, err_from_is_err_and}
use Rattle.ed_syntax.proofs.Faults.{line_fault, line_form, line_read, range_fault}
use Rattle.ed_syntax.proofs.source.line_of.Goals.{then-not-are_line_bytes, else-not-are_line_bytes+then-line-gt120}
use Rattle.ed_syntax.proofs.source.line_of.Goals.{else-not-are_line_bytes+else-line-gt120+in_ok-parts+in-Some+in-Err-1}
use Rattle.ed_syntax.proofs.source.line_of.Goals.{else-not-are_line_bytes+else-line-gt120+in_ok-parts+in-None}
use Rattle.ed_syntax.proofs.source.line_of.Goals.{in-Err-NotThisForm, in-Err-OutOfRange}
use Rattle.ed_syntax.proofs.source.line_of.Goals as goal

pub returns-in-Ok : goal.returns-in-Ok
returns-in-Ok c =
    line_read _ c.args.number c.args.line.now _
    (sym c.if-not-are_line_bytes.ensures) c.if-line-gt120.false (rw c.in-Some.is at c.in_ok-parts.ensures)
    ∙ line_form _ c.in-Ok.form (rw c.deref.ensures.value at c.in-Ok.ensures)

pub returns : goal.returns
returns c = search (rules, line_read, line_fault, range_fault, le-ltb, lt-ltb)

pub returns-in_err-parts : goal.returns-in_err-parts
returns-in_err-parts c =
    let p = err_from_is_err_and c.from_residual.result c.from_residual.ensures.1 in rw (p.1, p.2) tt
