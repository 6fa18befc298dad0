-- Decimal numerals.
use Rattle.ed_orders.proofs.Kit.{arith, length, ℕ, ◌<◌, ◌≤◌}
use Rattle.std.proofs.Common.{decimal}
use Rattle.std.proofs.lemmas.Fmt.{length-decimal-le}

-- a number below 2048 has at most four digits
pub four_digits : (n : ℕ) → n < 2048 → length (decimal n) ≤ 4
four_digits n small = length-decimal-le 4 n (omega arith) (omega arith) (omega arith)
