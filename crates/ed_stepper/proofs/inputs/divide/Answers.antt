use Rattle.ed_stepper.proofs.Kit.{eqb-true, ap, rules, sym, ◌∙◌, text_kind_of}
use Rattle.ed_stepper.proofs.Divisions.{at_end, at_start, ends_at, first_is, goes_on}
use Rattle.ed_stepper.proofs.InputLaws.{read_is_division, read_is_undivided}
use Rattle.ed_stepper.proofs.inputs.divide.Goals as goal

pub loop-rest-preserved : goal.loop-rest-preserved
loop-rest-preserved c =
    let rest = c.loop-rest.rest.now in
    let line = first_is rest c.first_line.result.0.now _ c.first_line.ensures.lines in
    goes_on c.args.input.now rest c.first_line.result.1.now c.loop-rest.invariant (search rules)
    (ap text_kind_of line ∙ sym c.text_kind_of.ensures ∙ c.in_default.is) c.first_line.ensures.after

pub loop-rest-init : goal.loop-rest-init
loop-rest-init c = at_start c.args.input.now

pub returns-in-Some : goal.returns-in-Some
returns-in-Some c =
    let rest = c.loop-rest.rest.now in
    let line = first_is rest c.first_line.result.0.now _ c.first_line.ensures.lines in
    read_is_division c.args.input.now _
    (ends_at c.args.input.now rest c.first_line.result.1.now c.in-Some.kind c.loop-rest.invariant (search rules)
    (ap text_kind_of line ∙ sym c.text_kind_of.ensures ∙ c.in-Some.is) c.first_line.ensures.after)

pub returns : goal.returns
returns c =
    read_is_undivided c.args.input.now
    (at_end c.args.input.now c.loop-rest.rest.now c.loop-rest.invariant (eqb-true _ 0 (sym c.loop-rest-test.ensures)))
