use Rattle.ed_top.proofs.Scripts.{source_has_none, source_rows, source_without_memory, tape_rows}
use Rattle.ed_top.proofs.step.text_rows.Goals as goal

pub returns-in-Tape : goal.returns-in-Tape
returns-in-Tape c =
    tape_rows c.args.settings c.args.kind c.args.text.now c.rows_of.result c.in-Tape.is c.rows_of.ensures.is

pub returns-in_err-linked_of-in-Source : goal.returns-in_err-linked_of-in-Source
returns-in_err-linked_of-in-Source c =
    source_has_none c.args.settings c.args.kind c.args.text.now c.from_residual.result _ c.in-Source.is
    c.in_err-linked_of-in-Source.ensures c.from_residual.ensures

pub returns-in_err-rows-in-Source : goal.returns-in_err-rows-in-Source
returns-in_err-rows-in-Source c =
    source_without_memory c.args.settings c.args.kind c.args.text.now c.from_residual-in_err-rows-in-Source.result
    c.in-Source.is c.from_residual-in_err-rows-in-Source.ensures

pub returns-in_ok-rows-in-Source : goal.returns-in_ok-rows-in-Source
returns-in_ok-rows-in-Source c =
    source_rows c.args.settings c.args.kind c.args.text.now c.in_ok-linked_of-in-Source.field-0
    c.in_ok-rows-in-Source.field-0 c.in-Source.is c.in_ok-linked_of-in-Source.ensures c.in_ok-rows-in-Source.ensures.is
