use Rattle.std.proofs.Common.{◌<◌, arith, refl}
use Rattle.ed_library.proofs.tables.table.Goals as goal

pub returns-in-0 : goal.returns-in-0
returns-in-0 c = rw c.in-0.is (record { name = refl; parameters = refl; working = refl; items = refl; rows = refl })

pub returns-in-1 : goal.returns-in-1
returns-in-1 c = rw c.in-1.is (record { name = refl; parameters = refl; working = refl; items = refl; rows = refl })

pub returns-in-2 : goal.returns-in-2
returns-in-2 c = rw c.in-2.is (record { name = refl; parameters = refl; working = refl; items = refl; rows = refl })

pub returns-in-3 : goal.returns-in-3
returns-in-3 c = rw c.in-3.is (record { name = refl; parameters = refl; working = refl; items = refl; rows = refl })

pub returns-in-4 : goal.returns-in-4
returns-in-4 c = rw c.in-4.is (record { name = refl; parameters = refl; working = refl; items = refl; rows = refl })

pub returns-in-5 : goal.returns-in-5
returns-in-5 c = rw c.in-5.is (record { name = refl; parameters = refl; working = refl; items = refl; rows = refl })

pub unreachable-requires : goal.unreachable-requires
unreachable-requires c =
    let few : c.args.index < 6 = c.requires in omega arith
