use Rattle.ed_interlude.proofs.Kit.{eq-eqb, ne_eqb}
use Rattle.ed_interlude.proofs.part.check_part.Goals as goal

pub returns-then-number-eq1 : goal.returns-then-number-eq1
returns-then-number-eq1 c =
    rw (eq-eqb c.args.number 1 c.if-number-eq1.true)
    (rw (c.size.ensures.is, c.store.ensures, c.rows_left.ensures) at c.check.ensures.answers)

pub returns : goal.returns
returns c = rw (ne_eqb c.args.number 1 c.if-number-eq1.false) c.check_rest.ensures.answers
