use Rattle.ed_orders.proofs.Kit.{arith, None, sym, ◌≤◌, get_or_past, kinds}
use Rattle.ed_orders.proofs.KindLetters.{by_letter}
use Rattle.ed_orders.proofs.kind.kind_of.Goals as goal

pub returns-in-32-to-255-clause-is : goal.returns-in-32-to-255-clause-is
returns-in-32-to-255-clause-is c =
    let past : 32 ≤ c.args.function = grind (arith, c.in-32-to-255) in sym (get_or_past kinds c.args.function None past)

pub returns-in-3-clause-law : goal.returns-in-3-clause-law
returns-in-3-clause-law c = by_letter

pub returns-in-4-clause-law : goal.returns-in-4-clause-law
returns-in-4-clause-law c = by_letter

pub returns-in-5-clause-law : goal.returns-in-5-clause-law
returns-in-5-clause-law c = by_letter

pub returns-in-6-clause-law : goal.returns-in-6-clause-law
returns-in-6-clause-law c = by_letter

pub returns-in-7-clause-law : goal.returns-in-7-clause-law
returns-in-7-clause-law c = by_letter

pub returns-in-8-clause-law : goal.returns-in-8-clause-law
returns-in-8-clause-law c = by_letter

pub returns-in-9-clause-law : goal.returns-in-9-clause-law
returns-in-9-clause-law c = by_letter

pub returns-in-12-clause-law : goal.returns-in-12-clause-law
returns-in-12-clause-law c = by_letter

pub returns-in-13-clause-law : goal.returns-in-13-clause-law
returns-in-13-clause-law c = by_letter

pub returns-in-17-clause-law : goal.returns-in-17-clause-law
returns-in-17-clause-law c = by_letter

pub returns-in-21-clause-law : goal.returns-in-21-clause-law
returns-in-21-clause-law c = by_letter

pub returns-in-22-clause-law : goal.returns-in-22-clause-law
returns-in-22-clause-law c = by_letter

pub returns-in-25-clause-law : goal.returns-in-25-clause-law
returns-in-25-clause-law c = by_letter

pub returns-in-26-clause-law : goal.returns-in-26-clause-law
returns-in-26-clause-law c = by_letter

pub returns-in-27-clause-law : goal.returns-in-27-clause-law
returns-in-27-clause-law c = by_letter

pub returns-in-28-clause-law : goal.returns-in-28-clause-law
returns-in-28-clause-law c = by_letter

pub returns-in-30-clause-law : goal.returns-in-30-clause-law
returns-in-30-clause-law c = by_letter

pub returns-in-31-clause-law : goal.returns-in-31-clause-law
returns-in-31-clause-law c = by_letter

pub returns-in-32-to-255-clause-law : goal.returns-in-32-to-255-clause-law
returns-in-32-to-255-clause-law c = by_letter

pub returns-in-0-clause-law : goal.returns-in-0-clause-law
returns-in-0-clause-law c = by_letter

pub returns-in-0-2-clause-law : goal.returns-in-0-2-clause-law
returns-in-0-2-clause-law c = by_letter
