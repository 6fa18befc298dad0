use Rattle.ed_sources.proofs.Kit.{decimal, string_bytes, map, drop, ◌++◌, ◌≡◌, filled_text}
use Rattle.ed_sources.proofs.filling.filled.Given as goal

abbrev pub invariant-loop-gap : goal.invariant-loop-gap
invariant-loop-gap l =
    string_bytes l.text
    ++ filled_text (map (λ piece. piece.now) (drop l.gap l.pieces)) (map decimal (drop l.gap l.numbers))
    ≡ filled_text (map (λ piece. piece.now) l.pieces) (map decimal l.numbers)
