-- What the guest of `call check N` prints has room on the paper, and the machine's orders lead to its stop.
use Rattle.ed_sources.proofs.Kit.{Size, length-append, before_units, arith, length, rules, subst, suc, zero, ℕ, ◌*◌}
use Rattle.ed_sources.proofs.Kit.{◌+◌, ◌<◌, ◌≤◌, State, print_orders, sum, ChecksToStop, guest, entry_state, StopsAt}
use Rattle.ed_machine.proofs.Kit.Leads.{all_go}
use Rattle.ed_machine.proofs.Steps.{one_code}
use Rattle.ed_checker.specs.Checker.{checked_codes, planting_place}
use Rattle.ed_sources.proofs.CheckedPrint.{checks_print, count_is}
use Rattle.ed_sources.proofs.PrintOrders.{print_few}
use Rattle.ed_sources.proofs.Said.{check_lines}

-- each order of a guest prints at most two codes
two_each : (q : ℕ) (g : State) → length (checked_codes g q) ≤ 2 * q
unfolding checked_codes
two_each zero g = omega arith
two_each (suc q) g = search (rules, one_code, length-append, two_each q g)

pub room_for_codes : (n : ℕ) (g : State) → n < 65536 → length (checked_codes g (3 + print_orders n)) ≤ 1000000
room_for_codes n g small = let two = two_each (3 + print_orders n) g in let few = print_few n small in omega arith

-- the machine stops at the end of the guest
pub checks_to_stop : (base q : ℕ) (m : State) (c : ChecksToStop base q m)
    → StopsAt c.count m (checked_codes (guest base m) q) (base + planting_place)
checks_to_stop base q m c = search (rules, all_go)

module _ (z : Size) (n : ℕ) (small : n < 65536) where
  abbrev c : ChecksToStop 112 (3 + print_orders n) (entry_state z (check_lines n))
  c = checks_print z n small

  pub check_ends : StopsAt (2550 + 244 * sum (before_units n) + 142 * length (before_units n))
      (entry_state z (check_lines n))
      (checked_codes (guest 112 (entry_state z (check_lines n))) (3 + print_orders n)) 152
  check_ends =
      subst (λ k. StopsAt k (entry_state z (check_lines n))
      (checked_codes (guest 112 (entry_state z (check_lines n))) (3 + print_orders n)) 152) (count_is z n small)
      (checks_to_stop 112 (3 + print_orders n) (entry_state z (check_lines n)) c)
