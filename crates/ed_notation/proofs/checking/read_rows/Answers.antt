use Rattle.ed_notation.proofs.Kit.{Bool, false, length, List, Some, true, length-replicate, ap, arith, ◌∙◌, IsPartial}
use Rattle.ed_notation.proofs.Kit.{PartialItem, Ended, Longer, Placed}
use Rattle.std.proofs.Common.{slice_set}
use Rattle.ed_store.specs.declared.store.Store.{Store}
use Rattle.ed_notation.proofs.Loop.{StandsAt-began, function_row, StandsAt-longer, StandsAt-ended, StandsAt-placed}
use Rattle.ed_notation.proofs.Loop.{IsFault-refused, Arrives-entered, at_end, IsEffectInRange-taken, StandsAt-written}
use Rattle.ed_notation.proofs.checking.read_rows.Goals.{in-None, in-Some+in-Longer, in-Some+in-Ended, in-Some+in-Placed}
use Rattle.ed_notation.proofs.checking.read_rows.Goals as goal

pub loop-row-init : goal.loop-row-init
loop-row-init c =
    StandsAt-began c.short.ensures.is c.short.ensures.store.words_are c.requires.placed c.requires.directive

pub returns-in-Refused : goal.returns-in-Refused
returns-in-Refused c =
    IsFault-refused c.in-Some.part (rw c.in-Some.is at c.loop-row.invariant)
    c.loop-row-test.true c.index-rows-row.is c.in-Refused.ensures

pub returns-in-Entered : goal.returns-in-Entered
returns-in-Entered c =
    Arrives-entered c.in-Some.part (rw c.in-Some.is at c.loop-row.invariant)
    c.loop-row-test.true c.index-rows-row.is c.in-Entered.ensures

pub loop-row-preserved : goal.loop-row-preserved
loop-row-preserved c = elim c.match-item.branch [
  | in-None w ↦ StandsAt-written w.orders-is w.setting-is (w.item-is
      ∙ ap (λ (i : PartialItem). Some i) w.begun.ensures.is)
      (ap (λ (s : Store). s.words) w.contents-is) w.placed-is
      (function_row (rw w.in-None.is at c.loop-row.invariant)
      c.loop-row-test.true c.index-rows-row.is w.begun.ensures.fits)
  | in-Some+in-Longer w ↦ StandsAt-written w.orders-is w.setting-is w.item-is
      (ap (λ (s : Store). s.words) w.contents-is) w.placed-is
      (StandsAt-longer w.in-Some.part (rw w.in-Some.is at c.loop-row.invariant)
      c.loop-row-test.true c.index-rows-row.is w.in-Longer.ensures)
  | in-Some+in-Ended w ↦ StandsAt-written w.orders-is w.setting-is w.item-is
      (ap (λ (s : Store). s.words) w.contents-is) w.placed-is
      (StandsAt-ended w.in-Some.part (rw w.in-Some.is at c.loop-row.invariant)
      c.loop-row-test.true c.index-rows-row.is w.in-Ended.ensures)
  | in-Some+in-Placed w ↦ StandsAt-written w.orders-is (w.setting-is ∙ w.moved_on-setting.ensures) w.item-is
      (ap (λ (s : Store). s.words) (w.contents-is ∙ w.put_short.ensures.is))
      (w.placed-is ∙ ap (λ k. slice_set c.loop-row.placed k true) w.from.ensures)
      (StandsAt-placed w.in-Some.part (rw w.in-Some.is at c.loop-row.invariant)
      c.loop-row-test.true c.index-rows-row.is w.in-Placed.ensures)
]

pub returns : goal.returns
returns c = at_end c.loop-row.invariant (omega (arith, c.loop-row-test.false, c.loop-row.auto.row-end))

pub take-requires : goal.take-requires
take-requires c =
    let a : IsPartial (Some c.in-Some.part) = rw c.in-Some.is at c.loop-row.invariant.partial in a

pub overflow_add-orders-in-Longer : goal.overflow_add-orders-in-Longer
overflow_add-orders-in-Longer c =
    let t = IsEffectInRange-taken c.in-Some.part (rw c.in-Some.is at c.loop-row.invariant)
    c.loop-row-test.true c.index-rows-row.is
    (Longer c.in-Longer.longer c.in-Longer.more) c.in-Longer.ensures in
    omega (arith, c.requires.rows, c.requires.base, c.loop-row-test.true, c.loop-row.invariant.cheap, t.1)

pub overflow_add-orders-in-Ended : goal.overflow_add-orders-in-Ended
overflow_add-orders-in-Ended c =
    let t = IsEffectInRange-taken c.in-Some.part (rw c.in-Some.is at c.loop-row.invariant)
    c.loop-row-test.true c.index-rows-row.is
    (Ended c.in-Ended.next c.in-Ended.more) c.in-Ended.ensures in
    omega (arith, c.requires.rows, c.requires.base, c.loop-row-test.true, c.loop-row.invariant.cheap, t.1)

pub overflow_add-orders-in-Placed : goal.overflow_add-orders-in-Placed
overflow_add-orders-in-Placed c =
    omega (arith, c.requires.rows, c.requires.base, c.loop-row-test.true, c.loop-row.invariant.cheap)

pub put_short-requires : goal.put_short-requires
put_short-requires c =
    let t = IsEffectInRange-taken c.in-Some.part (rw c.in-Some.is at c.loop-row.invariant)
    c.loop-row-test.true c.index-rows-row.is
    (Placed c.in-Placed.at c.in-Placed.word) c.in-Placed.ensures in t.1

pub bounds-placed-from : goal.bounds-placed-from
bounds-placed-from c =
    let t = IsEffectInRange-taken c.in-Some.part (rw c.in-Some.is at c.loop-row.invariant)
    c.loop-row-test.true c.index-rows-row.is
    (Placed c.in-Placed.at c.in-Placed.word) c.in-Placed.ensures in
    omega (
      arith,
      c.from.ensures,
      t.1,
      c.loop-row.auto.placed,
      ap (λ (m : List Bool). length m) c.requires.placed,
      length-replicate 1024 false,
    )

pub moved_on-setting-requires : goal.moved_on-setting-requires
moved_on-setting-requires c =
    let t = IsEffectInRange-taken c.in-Some.part (rw c.in-Some.is at c.loop-row.invariant)
    c.loop-row-test.true c.index-rows-row.is
    (Placed c.in-Placed.at c.in-Placed.word) c.in-Placed.ensures in
    omega (arith, t.2)
