use Rattle.std.proofs.lemmas.Grind.{not_there}
use Rattle.ed_lines.proofs.name.Name.text.Goals as goal

pub unreachable-requires : goal.unreachable-requires
unreachable-requires c = not_there c.self.invariant.text c.in-Err.ensures.cases.0
