use Rattle.ed_stepper.proofs.Kit.{position_or_len, drop, ◌+◌, ◌==◌, ◌≡◌}
use Rattle.ed_stepper.proofs.fronts.first_byte.Given as goal

-- the byte is not among those passed
abbrev pub invariant-loop-place : goal.invariant-loop-place
invariant-loop-place l =
    position_or_len (λ b. b == l.wanted) l.text ≡ l.place + position_or_len (λ b. b == l.wanted) (drop l.place l.text)
