-- What the checking routine does for many orders of its guest.
use Rattle.std.specs.Prelude.{◌≡◌, ℕ, suc, ◌+◌, ◌*◌, ◌%◌, ◌<◌, ◌≤◌, true, false, List, [], ◌∷◌, ◌++◌}
use Rattle.ed_words.specs.Words.{function_of}
use Rattle.ed_words.specs.Sizes.{locations}
use Rattle.ed_machine.specs.State.{State}
use Rattle.ed_machine.specs.OrderTable.{next_word, step}
use Rattle.ed_machine.specs.Sound.{IsSound}
use Rattle.ed_machine.specs.Steps.{AreObeyed, is_obeyed, progress, state_after}
use Rattle.ed_machine.specs.declared.turn.Turn.TheVariants.{Stopped}
use Rattle.ed_checker.specs.Checker.{Agree, CheckerStands, IsAllowed, checked_codes, checked_orders, guest}
use Rattle.ed_checker.specs.Checker.{planting_place, saving_orders}

-- k orders, each obeyed, lead from s to t, print these codes, and include this number of stops
pub record HasRun (k : ℕ) (s : State) (codes : List ℕ) (stops : ℕ) (t : State) : Type 0 where
  pub is : progress k s ≡ record { state = t; codes = codes; stops = stops }
  pub free : AreObeyed k s

-- the first q orders of a guest are obeyed, none of them is a stop, and the next one is: it is the first Z
pub record StopsAfter (q : ℕ) (g : State) : Type 0 where
  pub free : AreObeyed q g
  pub no_stops : (progress q g).stops ≡ 0
  pub stops : (step (state_after q g)).turn ≡ Stopped

-- the first q orders of the guest are allowed, and each is obeyed
pub record IsFollowed (base q : ℕ) (g : State) : Type 0 where
  pub allowed : (j : ℕ) → j < q → IsAllowed base (state_after j g)
  pub obeyed : (j : ℕ) → j < q → is_obeyed (step (state_after j g)).turn ≡ true

-- the routine has obeyed q orders of its guest, in the sum of their turns: it has printed their checked codes, it is at
-- the start of a turn again, and its guest agrees with the guest after these orders
pub record HasChecked (base q : ℕ) (m : State) : Type 0 where
  pub last : State
  pub most : checked_orders (guest base m) q ≤ 35 * q
  pub ran : HasRun (checked_orders (guest base m) q) m (checked_codes (guest base m) q)
      (progress q (guest base m)).stops last
  pub stands : CheckerStands base last
  pub agree : Agree base (guest base last) (state_after q (guest base m))
  pub size : last.size ≡ m.size

-- the machine reaches a stop, which is the q-th order of the guest, and has by then printed the checked codes of the q
-- orders; only the stop and the orders that save after it are missing from the q turns
pub record ChecksToStop (base q : ℕ) (m : State) : Type 0 where
  pub last : State
  pub count : ℕ
  pub exact : count + (1 + saving_orders) ≡ checked_orders (guest base m) q
  pub most : count + 1 ≤ 35 * q
  pub ran : HasRun count m (checked_codes (guest base m) q) 0 last
  pub counter : last.counter ≡ base + planting_place
  pub stops : (step last).turn ≡ Stopped

-- after q orders the guest reaches a word that is not an order, or an order that reads a tape with no row left: the
-- machine has printed their checked codes and the function of that word, and it is at its copy of that word, blocked by
-- the same cause, with the guest unchanged
pub record ChecksToBlock (base q : ℕ) (m : State) : Type 0 where
  pub last : State
  pub count : ℕ
  pub exact : count + (1 + saving_orders) ≡ checked_orders (guest base m) (suc q)
  pub ran : HasRun count m
      (checked_codes (guest base m) q ++ (function_of (next_word (state_after q (guest base m))) ∷ []))
      (progress q (guest base m)).stops last
  pub agree : Agree base (guest base last) (state_after q (guest base m))
  pub counter : last.counter ≡ base + planting_place
  pub blocked : (step last).turn ≡ (step (state_after q (guest base m))).turn

-- a machine with the routine at the start of a turn
pub record HasGuest (base : ℕ) (m : State) : Type 0 where
  pub even : base % 2 ≡ 0
  pub room : base + 66 ≤ locations m.size
  pub sound : IsSound m
  pub stands : CheckerStands base m

-- What holds of every guest: its orders are checked as long as they are allowed and obeyed. If the next one is its
-- first stop, the machine reaches it; if the next one can't be obeyed, the machine is blocked there.
pub record CheckerLaw : Type 0 where
  pub checks : (base q : ℕ) (m : State) → HasGuest base m → IsFollowed base q (guest base m) → HasChecked base q m
  pub to_stop : (base q : ℕ) (m : State) → HasGuest base m → IsFollowed base q (guest base m)
      → StopsAfter q (guest base m) → IsAllowed base (state_after q (guest base m)) → ChecksToStop base (suc q) m
  pub to_block : (base q : ℕ) (m : State) → HasGuest base m → IsFollowed base q (guest base m)
      → IsAllowed base (state_after q (guest base m))
      → is_obeyed (step (state_after q (guest base m))).turn ≡ false
      → ChecksToBlock base q m
