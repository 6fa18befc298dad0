use Rattle.std.proofs.Common.{rules, arith, sym, ◌∙◌, ap, ◌≤◌}
use Rattle.ed_acc.specs.Arithmetic.{right71}
use Rattle.ed_acc.proofs.Shifts.{negative_shifted, right_negative}
use Rattle.ed_acc.proofs.acc.Acc.right.Goals as goal

pub set-requires : goal.set-requires
set-requires c =
    let few : c.few_places-places.result ≤ 71 = omega (arith, c.few_places-places.ensures, c.requires.high) in
    (negative_shifted c.value.result c.few_places-places.result c.value.ensures.fits few).0

pub returns-then-is_negative : goal.returns-then-is_negative
returns-then-is_negative c =
    let few : c.few_places-places.result ≤ 71 = omega (arith, c.few_places-places.ensures, c.requires.high) in
    c.set.ensures
    ∙ (negative_shifted c.value.result c.few_places-places.result c.value.ensures.fits few).1
    ∙ sym (right_negative c.value.result c.few_places-places.result (search rules) c.value.ensures.fits few)
    ∙ ap (λ a. right71 a c.few_places-places.result) c.value.ensures.is
    ∙ ap (λ p. right71 c.args.self.now p) c.few_places-places.ensures
