use Rattle.ed_routines.proofs.Kit.{ℕ, ◌<◌, HasWord}
use Rattle.ed_routines.proofs.standing.has_image.Given as goal

abbrev pub invariant-loop-place : goal.invariant-loop-place
invariant-loop-place l = (i : ℕ) → i < l.place → HasWord l.routine l.parameters l.base l.machine i
