use Rattle.ed_stepper.proofs.Kit.{slice_index_or, length, ◌<◌, ◌≤◌, Checkpoint}
use Rattle.std.proofs.Common.{IfSome}
use Rattle.ed_stepper.proofs.checkpoints.latest.Given as goal

abbrev pub invariant-loop-place : goal.invariant-loop-place
invariant-loop-place l =
    IfSome l.found (λ i. (i < length l.checkpoints) × ((d : Checkpoint)
    → (slice_index_or l.checkpoints i d).done ≤ l.aim))
