use Rattle.ed_report.proofs.Kit.{string_bytes, drop, ◌++◌, ◌≡◌}
use Rattle.ed_report.specs.Listings.{listing}
use Rattle.ed_report.proofs.lines.listing.Given as goal

-- the lines so far, and then those of the places that are left
abbrev pub invariant-loop-place : goal.invariant-loop-place
invariant-loop-place l = string_bytes l.lines ++ listing l.store (drop l.place-index l.places)
    ≡ listing l.store l.places
