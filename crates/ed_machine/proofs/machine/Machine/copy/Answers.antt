use Rattle.std.proofs.Common.{zero-le}
use Rattle.std.proofs.lemmas.Result.{err_from_is_err_and}
use Rattle.ed_machine.proofs.machine.Machine.copy.Goals as goal

pub invariant_of-result : goal.invariant_of-result
invariant_of-result c = let i = c.self.invariant in (i.0, i.1, i.2, zero-le)

pub returns-in_err-store : goal.returns-in_err-store
returns-in_err-store c = rw (err_from_is_err_and c.from_residual.result c.from_residual.ensures.1).1 tt

pub returns-in_err-tape : goal.returns-in_err-tape
returns-in_err-tape c =
    let r = c.from_residual-in_err-tape in rw (err_from_is_err_and r.result r.ensures.1).1 tt
