use Rattle.ed_notation.proofs.Canonical.{spellable_law}
use Rattle.ed_notation.proofs.item.spellable.Goals as goal

pub returns-then-item-gt32767-clause-law : goal.returns-then-item-gt32767-clause-law
returns-then-item-gt32767-clause-law c = spellable_law c.args.item.now

pub returns-in-Zed-clause-law : goal.returns-in-Zed-clause-law
returns-in-Zed-clause-law c = spellable_law c.args.item.now

pub returns-then-item-eq0-clause-law : goal.returns-then-item-eq0-clause-law
returns-then-item-eq0-clause-law c = spellable_law c.args.item.now

pub returns-else-item-eq0-clause-law : goal.returns-else-item-eq0-clause-law
returns-else-item-eq0-clause-law c = spellable_law c.args.item.now

pub returns-in-Digit-clause-law : goal.returns-in-Digit-clause-law
returns-in-Digit-clause-law c = spellable_law c.args.item.now
