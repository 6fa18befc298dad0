-- A program whose orders all stay below the checking routine can be its guest.
use Rattle.ed_checker.proofs.Kit.{Kind, Option, refl, rules, suc, zero, ℕ, ◌%◌, ◌+◌, ◌∙◌, ◌≡◌, ◌≤◌, locations}
use Rattle.ed_checker.proofs.Kit.{next_word, obey_word, step, State, progress, state_after, IsAllowed}
use Rattle.ed_machine.proofs.Kit.Orders.{IsOrder}

module _ (base : ℕ) (even_base : base % 2 ≡ 0) (s : State) (room : base + 66 ≤ locations s.size) where
  abbrev w : ℕ
  w = next_word s

-- an order that stays below the routine, and is followed by a location below it, is allowed
pub allowed_below : (base : ℕ) → base % 2 ≡ 0 → (kind : Kind) (s : State) → IsOrder base kind s
    → base + 66 ≤ locations s.size
    → IsAllowed base s
allowed_below base even kind s o room = search rules

-- no order changes the size
same_size : (k : Option Kind) (w : ℕ) (s : State) → (obey_word k w s).state.size ≡ s.size
same_size k w s = search rules

pub size_after : (k : ℕ) (s : State) → (state_after k s).size ≡ s.size
unfolding progress step
size_after zero s = refl
size_after (suc k) s = same_size _ _ (state_after k s) ∙ size_after k s
