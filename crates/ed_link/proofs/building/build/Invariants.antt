use Rattle.ed_link.proofs.Kit.{is_some}
use Rattle.ed_link.proofs.LineLoop.{Doing}
use Rattle.ed_link.proofs.building.build.Given as goal

-- what is built from the lines so far, and then from those that are left
abbrev pub invariant-loop-line : goal.invariant-loop-line
invariant-loop-line l = Doing l.size l.symbols l.has_enter l.lines l.line-index (record {
  past = record { extents = l.built.extents.items; entered = is_some l.built.entry };
  counter = l.counter;
  built = l.built;
})
