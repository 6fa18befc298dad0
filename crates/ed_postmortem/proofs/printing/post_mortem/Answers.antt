-- The two laws are about all numbers, so they hold at each way out.
use Rattle.ed_postmortem.proofs.Kit.{refl, rules}
use Rattle.ed_postmortem.proofs.AddressDigits.{address_digits_law}
use Rattle.ed_postmortem.proofs.Bounds.{enough}
use Rattle.ed_postmortem.proofs.printing.post_mortem.Goals as goal

pub returns-then-first-lt-FIRST : goal.returns-then-first-lt-FIRST
returns-then-first-lt-FIRST c = record {
  answers = (c.if-first-lt-FIRST.true, (refl, refl));
  law = enough;
  digits = address_digits_law;
}

pub returns-then-from : goal.returns-then-from
returns-then-from c = record { answers = search rules; law = enough; digits = address_digits_law }

pub returns-then-room-needed : goal.returns-then-room-needed
returns-then-room-needed c = record { answers = search rules; law = enough; digits = address_digits_law }

pub returns-in_err-rows : goal.returns-in_err-rows
returns-in_err-rows c = record { answers = search rules; law = enough; digits = address_digits_law }

pub returns : goal.returns
returns c = record { answers = search rules; law = enough; digits = address_digits_law }
