use Rattle.ed_link.proofs.Kit.{drop, ◌≡◌, list_any, overlaps}
use Rattle.ed_link.proofs.faults.Extent.overlaps_any.Given as goal

-- the same for the extents that are left
abbrev pub invariant-loop-other : goal.invariant-loop-other
invariant-loop-other l = list_any (λ other. overlaps l.self other) (drop l.other-index l.others)
    ≡ list_any (λ other. overlaps l.self other) l.others
