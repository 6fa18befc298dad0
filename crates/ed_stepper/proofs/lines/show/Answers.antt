use Rattle.ed_stepper.proofs.Kit.{All, arith, refl, subst, sym, ℕ, ◌+◌, ◌-◌, ◌<◌, ◌∙◌, ◌≤◌}
use Rattle.std.specs.List.{range_with_len}
use Rattle.std.proofs.lemmas.Iterator.{YieldsList-from_range, items_from_collect}
use Rattle.std.proofs.lemmas.List.FromFn.{get_or-range_with_len, length-range_with_len}
use Rattle.ed_stepper.proofs.lines.show.Goals as goal

low : (a b : ℕ) → b ≤ 1023 → All (λ x. x < 1024) (range_with_len a (b + 1 - a))
low a b within k d below =
    let few : k < b + 1 - a = omega (arith, below, length-range_with_len a (b + 1 - a)) in
    omega (arith, get_or-range_with_len a (b + 1 - a) k d few)

pub listing-requires : goal.listing-requires
listing-requires c =
    let ran = items_from_collect _ c.collect.ensures.ran
    (YieldsList-from_range c.args.first (c.args.last + 1) _ (cc) refl) in
    let places = rw c.in_ok-places.was at ran in
    subst (λ places. All (λ x. x < 1024) places) (sym (c.deref.ensures.value ∙ places))
    (low c.args.first c.args.last c.requires.within)

pub returns : goal.returns
returns c =
    let ran = items_from_collect _ c.collect.ensures.ran
    (YieldsList-from_range c.args.first (c.args.last + 1) _ (cc) refl) in
    let places = rw c.in_ok-places.was at ran in
    rw (c.store.ensures, c.deref.ensures.value, places) at c.listing.ensures
