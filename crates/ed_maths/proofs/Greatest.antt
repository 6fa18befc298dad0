-- The integer square root of a number is the greatest whose square is at most that number.
use Rattle.ed_maths.proofs.Kit.{rules, nat_le, arith, Bool, false, refl, suc, true, zero, ℕ, ◌*◌, ◌+◌, ◌<◌, ◌≡◌, IsRoot}
use Rattle.std.proofs.Common.{if◌then◌else◌}
use Rattle.std.proofs.lemmas.Bool.{leb-true}
use Rattle.ed_maths.specs.Roots.{root_of, root_up_to}

by_test : (k n below : ℕ) (t : Bool) → nat_le (suc k * suc k) n ≡ t → n < (suc k + 1) * (suc k + 1)
    → (n < (k + 1) * (k + 1) → IsRoot n below)
    → IsRoot n (if t then suc k else below)
by_test k n below true e low rest = record { square = leb-true (suc k * suc k) n e; greatest = low }
by_test k n below false e low rest = search rules

up_to : (k n : ℕ) → n < (k + 1) * (k + 1) → IsRoot n (root_up_to k n)
unfolding root_up_to
up_to zero n low = record { square = omega arith; greatest = low }
up_to (suc k) n low = by_test k n (root_up_to k n) (nat_le (suc k * suc k) n) refl low (up_to k n)

pub root_is : (n : ℕ) → IsRoot n (root_of n)
root_is n = let e : (n + 1) * (n + 1) ≡ n * n + 2 * n + 1 = omega arith in up_to n n (omega arith)
