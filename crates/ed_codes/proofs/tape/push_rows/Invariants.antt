use Rattle.ed_codes.proofs.Readings.{IsReadTo}
use Rattle.ed_codes.proofs.tape.push_rows.Given as goal

abbrev pub invariant-loop-place : goal.invariant-loop-place
invariant-loop-place l = IsReadTo l.text l.codes.items l.comment l.place
