use Rattle.ed_link.specs.declared.linked.Placed.{Placed}
use Rattle.ed_headline.proofs.Kit.{drop, map, ◌++◌, ◌≡◌}
use Rattle.ed_answers.proofs.source.places_of.Given as goal

abbrev pub invariant-loop-placed : goal.invariant-loop-placed
invariant-loop-placed l =
    l.places.items ++ map (λ (p : Placed). p.place) (drop l.placed-index l.words)
    ≡ map (λ (p : Placed). p.place) l.words
