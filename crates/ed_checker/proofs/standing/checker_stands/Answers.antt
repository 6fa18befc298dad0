use Rattle.ed_checker.proofs.Kit.{ap, subst, sym, true≢false, ◌%◌, ◌<◌, ◌^◌, ◌∙◌}
use Rattle.std.proofs.Common.{eqb-true, lt-ltb, ltb-true}
use Rattle.ed_checker.proofs.standing.checker_stands.Goals.{then-counter-base, else-counter-base}
use Rattle.ed_checker.proofs.standing.checker_stands.Goals.{then-acc-eq0, else-acc-eq0, then-has_image, else-has_image}
use Rattle.ed_checker.proofs.standing.checker_stands.Goals.{then-fetches, else-fetches, then-value, else-value}
use Rattle.ed_checker.proofs.standing.checker_stands.Goals as goal

pub returns-then-low-eq0 : goal.returns-then-low-eq0
returns-then-low-eq0 c = let low_is = c.value-low.ensures.is ∙ c.long.ensures in (
  λ few. elim c.if-value.branch [
    | else-value w ↦ absurd (true≢false (sym c.if-low-eq0.true ∙ w.value-is ∙ w.if-value.false))
    | then-value v ↦ elim c.if-fetches.branch [
      | else-fetches w ↦ absurd (true≢false (sym v.if-value.true ∙ w.value-is ∙ w.if-fetches.false))
      | then-fetches f ↦ elim c.if-has_image.branch [
        | else-has_image w ↦ absurd (true≢false (sym f.if-fetches.true ∙ w.value-is ∙ w.if-has_image.false))
        | then-has_image i ↦ elim c.if-acc-eq0.branch [
          | else-acc-eq0 w ↦ absurd (true≢false (sym i.if-has_image.true ∙ w.value-is ∙ w.if-acc-eq0.false))
          | then-acc-eq0 a ↦ elim c.if-counter-base.branch [
            | else-counter-base w ↦ absurd (w.if-counter-base.false (eqb-true _ _ (sym w.value-is ∙ a.if-acc-eq0.true)))
            | then-counter-base b ↦ record {
              counter = sym c.counter.ensures.is ∙ b.if-counter-base.true;
              acc = sym b.acc.ensures.is ∙ eqb-true _ _ (sym b.value-is ∙ a.if-acc-eq0.true);
              image = a.has_image.ensures.0 (sym a.value-is ∙ i.if-has_image.true);
              fetch = i.fetches.ensures.0 (sym i.value-is ∙ f.if-fetches.true);
              middle = subst (λ n. n < 2 ^ 34) (f.value-then-fetches.ensures.is ∙ f.long-then-fetches.ensures)
                  (ltb-true _ _ (sym f.value-is ∙ v.if-value.true));
              low = ap (λ n. n % 2 ^ 32) (sym low_is) ∙ eqb-true _ _ (sym v.value-is ∙ c.if-low-eq0.true);
              low_few = subst (λ n. n < 2 ^ 34) low_is (ltb-true _ _ few);
            }
          ]
        ]
      ]
    ]
  ],
  λ stands. lt-ltb _ _ (subst (λ n. n < 2 ^ 34) (sym low_is) stands.low_few),
)
