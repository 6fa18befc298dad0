use Rattle.ed_page.proofs.Kit.{◌%◌, digit, ap, nat_eq, subst, ℕ, ◌+◌, ◌<◌, ◌^◌, ◌∙◌, ◌≤◌}
use Rattle.ed_page.proofs.FirstItemRows.{tabled_digit1, tabled_end1, tabled_function1, tabled_last1}
use Rattle.ed_page.proofs.first_items.item_table1.Goals.{in-None, in-Some+then-value-lt10}
use Rattle.ed_page.proofs.first_items.item_table1.Goals.{in-Some+else-value-lt10+in_ok-push_numbers-in-Some}
use Rattle.ed_page.proofs.first_items.item_table1.Goals as goal

pub loop-row-preserved : goal.loop-row-preserved
loop-row-preserved c = elim c.match-part.branch [
  | in-None w ↦ rw (w.location-is, w.part-is, w.table-is, w.at.ensures)
      (tabled_function1 (rw w.in-None.is at c.loop-row.invariant) c.loop-row-test.true c.index-read-row.is)
  | in-Some+then-value-lt10 w ↦
      let low : c.index-read-row.result < 10 = subst (λ (n : ℕ). n < 10) w.value.ensures.is w.if-value-lt10.true in
      rw (w.location-is, w.part-is, w.table-is)
      (tabled_digit1 (rw w.in-Some.is at c.loop-row.invariant) c.loop-row-test.true c.index-read-row.is low
      (rw w.value-then-value-lt10.ensures.is at w.with_digit.ensures.is) w.with_digit.ensures.fits)
  | in-Some+else-value-lt10+in_ok-push_numbers-in-Some w ↦
      let high : 10 ≤ c.index-read-row.result = subst (λ (n : ℕ). 10 ≤ n) w.value.ensures.is w.if-value-lt10.false in
      rw (w.location-is, w.part-is, w.table-is)
      (tabled_last1 (rw w.in-Some.is at c.loop-row.invariant) c.loop-row-test.true c.index-read-row.is high
      _
      (λ i. (w.sum.ensures.is i + (w.from.ensures ∙ ap (λ n. digit (nat_eq n 25)) w.value-else-value-lt10.ensures.is) i)
      % 2 ^ 17)
      w.in_ok-push_numbers-in-Some.ensures)
]

pub returns : goal.returns
returns c = tabled_end1 c.loop-row.invariant c.loop-row-test.false
