use Rattle.std.proofs.Common.{sym, ◌∙◌}
use Rattle.ed_codes.proofs.Readings.{IsReadTo-begins, IsReadTo-closes, IsReadTo-stays, IsReadTo-opens, IsReadTo-skips}
use Rattle.ed_codes.proofs.Readings.{IsReadTo-gains, finds_none, ends_open, reading-ends}
use Rattle.ed_codes.proofs.tape.push_rows.Goals.{then-is_some+then-byte-eq93, then-is_some+else-byte-eq93}
use Rattle.ed_codes.proofs.tape.push_rows.Goals.{else-is_some+then-byte-eq91}
use Rattle.ed_codes.proofs.tape.push_rows.Goals.{else-is_some+else-byte-eq91+then-not-is_spacing+in-Some+in_ok-push-in-Some}
use Rattle.ed_codes.proofs.tape.push_rows.Goals.{else-is_some+else-byte-eq91+else-not-is_spacing}
use Rattle.ed_codes.proofs.tape.push_rows.Goals as goal

pub loop-place-init : goal.loop-place-init
loop-place-init c = IsReadTo-begins c.requires

pub loop-place-preserved : goal.loop-place-preserved
loop-place-preserved c =
    let below = c.loop-place-test.true in
    let before = c.loop-place.invariant in
    elim c.if-is_some.branch [
      | then-is_some+then-byte-eq93 w ↦
          rw (w.codes-is, w.comment-is) (IsReadTo-closes below w.if-is_some.ensures w.if-byte-eq93.true before)
      | then-is_some+else-byte-eq93 w ↦
          rw (w.codes-is, w.comment-is) (IsReadTo-stays below w.if-is_some.ensures w.if-byte-eq93.false before)
      | else-is_some+then-byte-eq91 w ↦
          rw (w.codes-is, w.comment-is) (IsReadTo-opens below w.if-is_some.ensures w.if-byte-eq91.true before)
      | else-is_some+else-byte-eq91+then-not-is_spacing+in-Some+in_ok-push-in-Some w ↦
          rw (w.codes-is, w.comment-is, w.in_ok-push-in-Some.ensures.items)
          (IsReadTo-gains w.in-Some.code below w.if-is_some.ensures (sym w.row_of_byte.ensures ∙ w.in-Some.is) before)
      | else-is_some+else-byte-eq91+else-not-is_spacing w ↦
          rw (w.codes-is, w.comment-is) (IsReadTo-skips below w.if-is_some.ensures w.if-not-is_spacing.ensures before)
    ]

pub returns-in-None : goal.returns-in-None
returns-in-None c =
    finds_none c.loop-place-test.true c.if-is_some.ensures c.if-byte-eq91.false c.if-not-is_spacing.ensures
    (sym c.row_of_byte.ensures ∙ c.in-None.is) c.loop-place.invariant

pub returns-in-Some-comment : goal.returns-in-Some-comment
returns-in-Some-comment c =
    ends_open c.loop-place-test.false (rw c.in-Some-comment.is at c.loop-place.invariant)

pub returns-in-None-comment : goal.returns-in-None-comment
returns-in-None-comment c =
    reading-ends c.loop-place-test.false (rw c.in-None-comment.is at c.loop-place.invariant)
