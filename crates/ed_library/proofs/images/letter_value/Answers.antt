use Rattle.std.proofs.Common.{◌*◌, sym, arith, inl, inr}
use Rattle.std.proofs.lemmas.Grind.{get_or_default_zero}
use Rattle.ed_library.proofs.Letters.{value_of_parameter, value_of_other}
use Rattle.ed_library.proofs.images.letter_value.Goals as goal

pub returns-in-21-to-26-clause-is : goal.returns-in-21-to-26-clause-is
returns-in-21-to-26-clause-is c =
    let value = value_of_parameter c.args.parameters.now (2 * c.args.base) c.args.letter (omega arith) in
    grind (arith, get_or_default_zero)

pub returns-in_default-clause-is : goal.returns-in_default-clause-is
returns-in_default-clause-is c =
    sym (value_of_other c.args.parameters.now (2 * c.args.base) c.args.letter c.told-parameters (λ e. omega arith)
    (λ e. omega arith) (inl (omega arith)))

pub returns-in_default-2-clause-is : goal.returns-in_default-2-clause-is
returns-in_default-2-clause-is c =
    sym (value_of_other c.args.parameters.now (2 * c.args.base) c.args.letter c.told-parameters (λ e. omega arith)
    (λ e. omega arith) (inr (omega arith)))
