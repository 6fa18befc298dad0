use Rattle.ed_syntax.proofs.Kit.{arith, length, map, rules, Some, ◌<◌, ◌≡◌, common_steps, err_from_is_err_and, part}
use Rattle.ed_syntax.proofs.Kit.{labelled_line, placed_statement, ranged_map, is_second, Form, Statement}
use Rattle.ed_syntax.proofs.Faults.{after_a_label, made_fault, made_form}
use Rattle.ed_syntax.proofs.statements.labelled.Goals as goal

pub returns-in_err-statement : goal.returns-in_err-statement
returns-in_err-statement c =
    let r = c.from_residual in
    let p = err_from_is_err_and r.result r.ensures.1 in
    let form : Statement → Form = λ (s : Statement). record { label = Some c.args.run.now; statement = Some s } in
    let o = placed_statement (is_second c.args.version) (map part c.args.parts.now) in
    let some : 0 < length c.args.parts.now = search rules in
    let whole : labelled_line (is_second c.args.version) c.args.run.now (map part c.args.parts.now)
    ≡ ranged_map form o =
    after_a_label _ c.args.run.now c.args.parts.now c.in-Some.ensures.some.1 some in
    rw (p.1, p.2, whole) (made_fault form o _ c.in_err-statement.ensures)

pub returns : goal.returns
returns c =
    let form : Statement → Form = λ (s : Statement). record { label = Some c.args.run.now; statement = Some s } in
    let o = placed_statement (is_second c.args.version) (map part c.args.parts.now) in
    let some : 0 < length c.args.parts.now = grind (arith, common_steps) in
    let whole : labelled_line (is_second c.args.version) c.args.run.now (map part c.args.parts.now)
    ≡ ranged_map form o =
    after_a_label _ c.args.run.now c.args.parts.now c.in-Some.ensures.some.1 some in
    rw (c.in-Some.ensures.some.0, whole) (made_form form o _ c.in_ok-statement.ensures)

pub returns-then-is_empty : goal.returns-then-is_empty
returns-then-is_empty c = grind (arith, common_steps)
