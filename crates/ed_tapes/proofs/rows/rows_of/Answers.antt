use Rattle.ed_codes.proofs.Pieces.{few_rows}
use Rattle.ed_tapes.proofs.rows.rows_of.Goals as goal

pub returns-in-Ok-clause-few : goal.returns-in-Ok-clause-few
returns-in-Ok-clause-few c = few_rows _ _ c.in-Ok.ensures.spelled
