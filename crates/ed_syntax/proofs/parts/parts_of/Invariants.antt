use Rattle.ed_syntax.proofs.Kit.{length, map, option_map, ◌++◌, ◌≡◌, part, parts_of}
use Rattle.ed_syntax.proofs.parts.parts_of.Given as goal

abbrev pub invariant-loop-part : goal.invariant-loop-part
invariant-loop-part l = parts_of l.line ≡ option_map (λ ps. map part l.parts.items ++ ps) (parts_of l.rest)

abbrev pub decreases-loop-part : goal.decreases-loop-part
decreases-loop-part l = length l.rest
