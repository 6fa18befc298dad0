use Rattle.ed_interlude.proofs.Kit.{get_or, ℕ, ◌<◌, ◌≡◌, ◌≤◌, initial_orders}
use Rattle.ed_interlude.proofs.returning.are_listed.Given as goal

abbrev pub invariant-loop-place : goal.invariant-loop-place
invariant-loop-place l = (i : ℕ) → l.fn.first ≤ i → i < l.place
    → get_or l.fn.machine.store.words i 0 ≡ get_or initial_orders i 0
