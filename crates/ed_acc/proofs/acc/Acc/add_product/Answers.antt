use Rattle.std.proofs.Common.{◌≡◌, sym, ap, ◌∙◌, ◌+ℤ◌, pos, ◌^◌}
use Rattle.ed_acc.specs.Arithmetic.{modulo71, plus_product}
use Rattle.ed_acc.proofs.Products.{IsWithin, to_z-passed, plus_wrapped}
use Rattle.ed_acc.proofs.acc.Acc.add_product.Goals as goal

pub returns : goal.returns
unfolding plus_product
returns c =
    let old = c.args.self.now in
    let within : IsWithin (2 ^ 70) c.product.result = record {
      low = c.product.ensures.low;
      high = c.product.ensures.high;
    } in
    let whole : c.add.new.self ≡ modulo71 (pos old +ℤ c.product.result) =
    rw (c.add.ensures, c.wrapped.ensures.is, to_z-passed old c.product.result within)
    (sym (plus_wrapped old c.product.result within)) in
    whole ∙ ap (λ p. modulo71 (pos old +ℤ p)) c.product.ensures.is
