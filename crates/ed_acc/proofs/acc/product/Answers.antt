use Rattle.std.proofs.Common.{◌∙◌, ap₂, pos, ◌*ℤ◌, ◌^◌}
use Rattle.ed_acc.proofs.Products.{IsWithin, fourfold_fits, product_fits, product_is, product_within, to_z-widened}
use Rattle.ed_acc.proofs.Products.{widened_within}
use Rattle.ed_acc.proofs.acc.product.Goals as goal

left : (c : goal.After-from-2) → IsWithin (2 ^ 34) c.signed.result
left c = record { low = c.signed.ensures.low; high = c.signed.ensures.high }

right : (c : goal.After-from-2) → IsWithin (2 ^ 34) c.signed-2.result
right c = record { low = c.signed-2.ensures.low; high = c.signed-2.ensures.high }

pub overflow_mul-result : goal.overflow_mul-result
overflow_mul-result c =
    product_fits _ _ (widened_within _ _ c.from.ensures (left c)) (widened_within _ _ c.from-2.ensures (right c))

pub overflow_mul-result-2 : goal.overflow_mul-result-2
overflow_mul-result-2 c =
    fourfold_fits _ _ (widened_within _ _ c.from.ensures (left c)) (widened_within _ _ c.from-2.ensures (right c))

pub returns : goal.returns
returns c =
    let one = widened_within _ _ c.from.ensures (left c) in
    let other = widened_within _ _ c.from-2.ensures (right c) in
    let value = product_is _ _ one other in
    let within = product_within _ _ one other in
    record {
      is = value
          ∙ ap₂ (λ x y. pos 4 *ℤ (x *ℤ y)) (c.from.ensures ∙ to_z-widened _ (left c) ∙ c.signed.ensures.is)
          (c.from-2.ensures ∙ to_z-widened _ (right c) ∙ c.signed-2.ensures.is);
      low = rw value within.low;
      high = rw value within.high;
    }
