use Rattle.std.proofs.lemmas.Grind.{common_steps}
use Rattle.std.proofs.Common.{◌<◌, ◌≤◌, ◌^◌, ℕ, arith, lit<}
use Rattle.std.proofs.Math.Nat.{pow-le-pow_right}
use Rattle.ed_words.proofs.decimals.number.Goals as goal

-- a number of at most eight digits
below : (i v : ℕ) → i ≤ 8 → v < 10 ^ i → v < 100000000
below i v h b = let most : 10 ^ i ≤ 10 ^ 8 = pow-le-pow_right (lit< tt) h in omega (arith, most, b)

pub overflow_mul-value : goal.overflow_mul-value
overflow_mul-value c =
    let small = below c.loop-byte.byte-index c.loop-byte.value (omega arith) c.loop-byte.invariant.bound in
    omega (arith, small)

pub overflow_add-value : goal.overflow_add-value
overflow_add-value c =
    let small = below c.loop-byte.byte-index c.loop-byte.value (omega arith) c.loop-byte.invariant.bound in
    omega (arith, small)

pub returns-then-not-is_ascii_digit : goal.returns-then-not-is_ascii_digit
returns-then-not-is_ascii_digit c = grind (arith, common_steps)

pub loop-byte-preserved : goal.loop-byte-preserved
loop-byte-preserved c = grind (arith, common_steps)

pub returns : goal.returns
returns c = grind (arith, common_steps)
