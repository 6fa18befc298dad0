use Rattle.ed_tapes.proofs.Checks.{from_cleared}
use Rattle.ed_tapes.proofs.check.check_from_cleared.Goals as goal

pub returns : goal.returns
returns c =
    from_cleared c.args.size c.args.rows.now c.check-2.result c.in_ok-cleared.ensures c.check-2.ensures.answers
