use Rattle.ed_stepper.proofs.Kit.{take_rest, sym, ◌+◌, ◌∙◌}
use Rattle.ed_stepper.proofs.Divisions.{behind_ended, behind_unended}
use Rattle.ed_stepper.proofs.Heads.{first_last, line_ended}
use Rattle.ed_stepper.proofs.fronts.first_line.Goals as goal

pub returns-then-end-text-clause-lines : goal.returns-then-end-text-clause-lines
returns-then-end-text-clause-lines c =
    rw take_rest (line_ended c.args.text.now _ _ c.first_byte-end.ensures.is c.if-end-text.true c.stop_of.ensures.is)

pub returns-then-end-text-clause-after : goal.returns-then-end-text-clause-after
returns-then-end-text-clause-after c =
    take_rest c.args.text.now (c.first_byte-end.result + 1)
    ∙ sym (behind_ended c.args.text.now _ c.first_byte-end.ensures.is)

pub returns-else-end-text-clause-lines : goal.returns-else-end-text-clause-lines
returns-else-end-text-clause-lines c =
    first_last c.args.text.now c.requires (rw c.first_byte-end.ensures.is at c.if-end-text.false)

pub returns-else-end-text-clause-after : goal.returns-else-end-text-clause-after
returns-else-end-text-clause-after c =
    sym (behind_unended c.args.text.now (rw c.first_byte-end.ensures.is at c.if-end-text.false))
