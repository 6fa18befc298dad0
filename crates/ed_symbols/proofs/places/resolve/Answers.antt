use Rattle.ed_symbols.proofs.NameLaw.{found_is, each_has_one}
use Rattle.ed_symbols.proofs.places.resolve.Goals as goal
use Rattle.ed_symbols.proofs.Kit.{rules}

pub returns-in_err-positions-clause-one : goal.returns-in_err-positions-clause-one
returns-in_err-positions-clause-one c = each_has_one

pub returns-in_err-fault-clause-one : goal.returns-in_err-fault-clause-one
returns-in_err-fault-clause-one c = each_has_one

pub returns-clause-fault : goal.returns-clause-fault
returns-clause-fault c = search (rules, found_is)

pub returns-clause-one : goal.returns-clause-one
returns-clause-one c = each_has_one
