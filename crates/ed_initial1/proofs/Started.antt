-- A machine of full size on which Start has just acted is at the first of the 31 orders.
use Rattle.ed_initial1.proofs.Kit.{Full, drop, List, refl, ℕ, ◌≡◌, State, IsStarted1, first_orders}
use Rattle.std.proofs.Math.ListN.{get_or-append}
use Rattle.ed_machine.specs.Start.{start_state}

pub is_started : (rows : List ℕ) (s : State) → s.size ≡ Full → IsStarted1 (start_state first_orders rows s)
is_started rows s full =
    record { size = full; counter = refl; orders = λ i h. get_or-append first_orders (drop 31 s.store.words) 0 i h }
