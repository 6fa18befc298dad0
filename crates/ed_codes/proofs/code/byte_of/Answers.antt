use Rattle.std.proofs.Common.{◌∙◌, ap}
use Rattle.std.specs.Prelude.{Some}
use Rattle.ed_codes.proofs.Spellings.{letter_back}
use Rattle.ed_codes.proofs.code.byte_of.Goals as goal

pub returns-clause-back : goal.returns-clause-back
returns-clause-back c =
    rw c.from.ensures (letter_back c.value-number.result c.value-number.ensures.fits
    ∙ ap Some c.value-number.ensures.is)
