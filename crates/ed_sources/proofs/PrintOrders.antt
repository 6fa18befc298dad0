-- `print` takes few orders.
use Rattle.ed_sources.proofs.Kit.{before_units, tens, [], arith, length, List, suc, zero, ℕ, ◌%◌, ◌+◌, ◌/◌, ◌<◌, ◌∷◌}
use Rattle.ed_sources.proofs.Kit.{◌≤◌, print_orders, sum, without_zeros}

less_sum : (ds : List ℕ) → sum (without_zeros ds) ≤ sum ds
less_sum [] = omega arith
less_sum (zero ∷ ds) = omega (arith, less_sum ds)
less_sum (suc d ∷ ds) = omega arith

less_long : (ds : List ℕ) → length (without_zeros ds) ≤ length ds
less_long [] = omega arith
less_long (zero ∷ ds) = omega (arith, less_long ds)
less_long (suc d ∷ ds) = omega arith

pub digits_sum : (n : ℕ) → sum (before_units n) ≤ n / 10000 + n / 1000 % 10 + n / 100 % 10 + n / 10 % 10
digits_sum n = let less = less_sum (tens n) in omega (arith, less)

pub digits_long : (n : ℕ) → length (before_units n) ≤ 4
digits_long n = less_long (tens n)

-- the digits of a word before its units are 5, 9, 9 and 9 at most
pub sum_few : (n : ℕ) → n < 65536 → sum (before_units n) ≤ 32
sum_few n small = let digits = digits_sum n in omega (arith, digits)

pub print_few : (n : ℕ) → n < 65536 → print_orders n ≤ 350
print_few n small = let few = sum_few n small in let long = digits_long n in omega (arith, few, long)
