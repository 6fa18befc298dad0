-- Products of signed long words, and sums with them, fit 128 binary digits.
use Rattle.std.proofs.Common.{◌≡◌, ◌∙◌, refl, ap, ℕ, ◌+◌, ◌-◌, ◌%◌, ◌^◌, ◌≤◌, arith, ℤ}
use Rattle.std.proofs.Common.{pos, nat_abs, neg_ℤ, ◌≤ℤ◌, ◌+ℤ◌, ◌-ℤ◌, ◌*ℤ◌, lit<, lit≤}
use Rattle.std.proofs.lemmas.Int.{ints, to_z-of_z, fits_signed_mul, unsigned_abs-mul, int_rem_euclid_is}
use Rattle.std.proofs.Math.Nat.{mul-le-mul}
use Rattle.std.specs.Prelude.{unsigned_abs}
use Rattle.ed_acc.specs.Arithmetic.{modulo71}
use mir.Val.{SFits, of_z, to_z}
use mir.Syntax.{w64, w128}

-- a whole number from -n to n
pub record IsWithin (n : ℕ) (z : ℤ) : Type 0 where
  pub low : neg_ℤ (pos n) ≤ℤ z
  pub high : z ≤ℤ pos n

-- a signed long word that is passed as one of 64 binary digits is itself
pub to_z-widened : (x : ℤ) → IsWithin (2 ^ 34) x → to_z w64 (of_z w64 x) ≡ x
to_z-widened x within = to_z-of_z w64 x (omega (arith, ints, within.low, within.high))

-- and stays within the same bounds
pub widened_within : (x y : ℤ) → y ≡ to_z w64 (of_z w64 x) → IsWithin (2 ^ 34) x → IsWithin (2 ^ 34) y
widened_within x y is within = rw (is ∙ to_z-widened x within) within

-- four times a product as it is computed
abbrev computed : ℤ → ℤ → ℤ
computed x y = to_z w128
    (of_z w128 (pos 4 *ℤ to_z w128 (of_z w128 (to_z w128 (of_z w128 x) *ℤ to_z w128 (of_z w128 y)))))

module _ (x y : ℤ) (left : IsWithin (2 ^ 34) x) (right : IsWithin (2 ^ 34) y) where
  small : nat_abs (x *ℤ y) ≤ 2 ^ 68
  small =
      let first : nat_abs x ≤ 2 ^ 34 = omega (arith, ints, left.low, left.high) in
      let second : nat_abs y ≤ 2 ^ 34 = omega (arith, ints, right.low, right.high) in
      omega (arith, unsigned_abs-mul x y, mul-le-mul first second)

  x_is : to_z w128 (of_z w128 x) ≡ x
  x_is = to_z-of_z w128 x (omega (arith, ints, left.low, left.high))

  y_is : to_z w128 (of_z w128 y) ≡ y
  y_is = to_z-of_z w128 y (omega (arith, ints, right.low, right.high))

  -- the product fits, as it is computed
  pub product_fits : SFits w128 (to_z w128 (of_z w128 x) *ℤ to_z w128 (of_z w128 y))
  product_fits =
      let fits : SFits w128 (x *ℤ y) = omega (arith, ints, small) in rw (x_is, y_is) fits

  once : to_z w128 (of_z w128 (to_z w128 (of_z w128 x) *ℤ to_z w128 (of_z w128 y))) ≡ x *ℤ y
  once = to_z-of_z w128 _ product_fits ∙ (λ i. x_is i *ℤ y_is i)

  fourfold : SFits w128 (pos 4 *ℤ (x *ℤ y))
  fourfold = fits_signed_mul w128 (pos 4) (x *ℤ y) 4 (2 ^ 68) (lit≤ tt) small (lit< tt)

  -- four times the product fits, as it is computed
  pub fourfold_fits : SFits w128
      (pos 4 *ℤ to_z w128 (of_z w128 (to_z w128 (of_z w128 x) *ℤ to_z w128 (of_z w128 y))))
  fourfold_fits = rw once fourfold

  -- it is that product
  pub product_is : computed x y ≡ pos 4 *ℤ (x *ℤ y)
  product_is = to_z-of_z w128 _ fourfold_fits ∙ ap (λ z. pos 4 *ℤ z) once

  pub product_within : IsWithin (2 ^ 70) (pos 4 *ℤ (x *ℤ y))
  product_within = record { low = omega (arith, ints, small); high = omega (arith, ints, small) }

module _ (a : ℕ) (p : ℤ) (within : IsWithin (2 ^ 70) p) where
  -- a product plus 2^71 is not negative
  raised : p +ℤ pos (2 ^ 71) ≡ pos (nat_abs (p +ℤ pos (2 ^ 71)))
  raised = omega (arith, ints, within.low, within.high)

  module _ (n : ℕ) (is : p +ℤ pos (2 ^ 71) ≡ pos n) where
    wrapped_is : modulo71 p ≡ n % 2 ^ 71
    wrapped_is = ap unsigned_abs (int_rem_euclid_is p (pos (2 ^ 71)) (2 ^ 71) 1 n (lit< tt) refl is)

    sum_wrapped : modulo71 (pos a +ℤ p) ≡ (a + modulo71 p) % 2 ^ 71
    sum_wrapped =
        let whole : modulo71 (pos a +ℤ p) ≡ (a + n) % 2 ^ 71 =
        ap unsigned_abs (int_rem_euclid_is (pos a +ℤ p) (pos (2 ^ 71)) (2 ^ 71) 1 (a + n) (lit< tt) refl
        (omega (arith, ints, is))) in
        rw (whole, wrapped_is) (omega arith)

    difference_wrapped : n ≤ 2 ^ 72 → modulo71 (pos a -ℤ p) ≡ (a + 2 ^ 71 - modulo71 p) % 2 ^ 71
    difference_wrapped low =
        let whole : modulo71 (pos a -ℤ p) ≡ (a + 2 ^ 72 - n) % 2 ^ 71 =
        ap unsigned_abs (int_rem_euclid_is (pos a -ℤ p) (pos (2 ^ 71)) (2 ^ 71) 1 (a + 2 ^ 72 - n) (lit< tt) refl
        (omega (arith, ints, is, low))) in
        rw (whole, wrapped_is) (omega (arith, low))

  -- a product that a call is passed is itself
  pub to_z-passed : to_z w128 (of_z w128 p) ≡ p
  to_z-passed = to_z-of_z w128 p (omega (arith, ints, within.low, within.high))

  -- a product added, and subtracted, after it was reduced below 2^71
  pub plus_wrapped : modulo71 (pos a +ℤ p) ≡ (a + modulo71 p) % 2 ^ 71
  plus_wrapped = sum_wrapped _ raised

  pub minus_wrapped : modulo71 (pos a -ℤ p) ≡ (a + 2 ^ 71 - modulo71 p) % 2 ^ 71
  minus_wrapped = difference_wrapped _ raised (omega (arith, ints, within.low, within.high))
