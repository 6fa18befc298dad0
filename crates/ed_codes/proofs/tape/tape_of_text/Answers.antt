use Rattle.std.proofs.Common.{rules}
use Rattle.std.specs.Prelude.{Ok}
use Rattle.ed_codes.proofs.Readings.{reads_text, has_one_reading}
use Rattle.ed_codes.proofs.tape.tape_of_text.Goals as goal

pub returns-in_err-push_rows : goal.returns-in_err-push_rows
returns-in_err-push_rows c = record {
  spelled = reads_text _ _ (search rules);
  exact = search rules;
  law = has_one_reading;
}

pub returns : goal.returns
returns c = record {
  spelled = reads_text _ (Ok c.push_rows.new.codes) c.in_ok-push_rows.ensures;
  exact = c.in_ok-push_rows.ensures;
  law = has_one_reading;
}
