use Rattle.ed_syntax.proofs.Kit.{[], List, None, Option, option_map, refl, rules, Some, ◌++◌, ◌∷◌, ◌≡◌, LinePart}
use Rattle.ed_syntax.proofs.Kit.{parts_of}
use Rattle.ed_syntax.proofs.PartLemmas.{more_parts}
use Rattle.ed_syntax.proofs.parts.parts_of.Goals as goal

-- no part comes before the first one
nothing_before : (o : Option (List LinePart)) → o ≡ option_map (λ ps. [] ++ ps) o
nothing_before None = refl
nothing_before (Some ps) = refl

pub loop-part-init : goal.loop-part-init
loop-part-init c = rw c.new-parts.ensures.items (nothing_before (parts_of c.args.line.now))

pub loop-part-preserved : goal.loop-part-preserved
loop-part-preserved c =
    let grown : c.push.new.self.items ≡ c.loop-part.parts.items ++ c.in-Ok-Some.part ∷ [] = search rules in
    let takes = rw c.in-Ok-Some.field-0-is at c.in-Ok-Some.ensures in
    rw grown (more_parts c.args.line.now c.loop-part.rest.now c.in-Ok-Some.after.now c.loop-part.parts.items
    c.in-Ok-Some.part c.loop-part.invariant takes.0)
