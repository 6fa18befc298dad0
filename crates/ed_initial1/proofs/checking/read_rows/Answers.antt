use Rattle.ed_initial1.proofs.Kit.{ap, arith, length, nat_eq, subst, sym, ◌∙◌, ◌≡◌, IsFault1, EndOfTape}
use Rattle.ed_initial1.proofs.Loop.{StandsAt-begins, IsFault1-refused, function_row, made_longer, made_ended}
use Rattle.ed_initial1.proofs.Loop.{made_whole, at_end, number_fits}
use Rattle.ed_initial1.proofs.checking.read_rows.Goals.{in-None, in-Some+in-Longer}
use Rattle.ed_initial1.proofs.checking.read_rows.Goals.{in-Some+in-Ended+in_ok-push-in-Ended+else-len-from}
use Rattle.ed_initial1.proofs.checking.read_rows.Goals as goal

pub loop-row-init : goal.loop-row-init
loop-row-init c = rw c.new-words.ensures.items (StandsAt-begins c.args.rows.now)

pub returns-in-Refused : goal.returns-in-Refused
returns-in-Refused c =
    let row = c.index-rows-row in
    IsFault1-refused (rw c.in-Some.is at c.loop-row.invariant) c.loop-row-test.true row.is
    (c.is_empty-first.ensures ∙ ap (λ n. nat_eq n 0) c.loop-row.words.ok.0)
    (sym c.in-Refused.is ∙ c.take.ensures)

pub returns-then-len-from : goal.returns-then-len-from
returns-then-len-from c =
    let row = c.index-rows-row in
    let empty = c.is_empty-first.ensures ∙ ap (λ n. nat_eq n 0) c.loop-row.words.ok.0 in
    let past = c.push.new.self.ok.0 in
    rw (c.new.ensures, c.in_ok-push-in-Ended.ensures.items)
    (made_whole (rw c.in-Some.is at c.loop-row.invariant) c.loop-row-test.true row.is empty
    (sym c.in-Ended.is ∙ c.take.ensures) c.word_of.ensures c.end_behind-end.ensures
    (rw (← c.in_ok-push-in-Ended.ensures.items)
    (omega (arith, c.len.ensures, past, c.from.ensures, c.if-len-from.true))))

pub loop-row-preserved : goal.loop-row-preserved
loop-row-preserved c = elim c.match-item.branch [
  | in-None w ↦
      let row = c.index-rows-row in
      rw (w.words-is, w.orders-is, w.end-is, w.item-is, w.begun.ensures.is)
      (function_row (rw w.in-None.is at c.loop-row.invariant) c.loop-row-test.true row.is
      w.begun.ensures.fits)
  | in-Some+in-Longer w ↦
      let row = c.index-rows-row in
      rw (w.words-is, w.orders-is, w.end-is, w.item-is)
      (made_longer (rw w.in-Some.is at c.loop-row.invariant) c.loop-row-test.true row.is
      (c.is_empty-first.ensures ∙ ap (λ n. nat_eq n 0) c.loop-row.words.ok.0)
      (sym w.in-Longer.is ∙ w.take.ensures))
  | in-Some+in-Ended+in_ok-push-in-Ended+else-len-from w ↦
      let row = c.index-rows-row in
      let empty = c.is_empty-first.ensures ∙ ap (λ n. nat_eq n 0) c.loop-row.words.ok.0 in
      let past = w.push.new.self.ok.0 in
      rw (w.words-is, w.orders-is, w.end-is, w.item-is, w.in_ok-push-in-Ended.ensures.items)
      (made_ended (rw w.in-Some.is at c.loop-row.invariant) c.loop-row-test.true row.is empty
      (sym w.in-Ended.is ∙ w.take.ensures) w.word_of.ensures w.end_behind-end.ensures
      (rw (← w.in_ok-push-in-Ended.ensures.items)
      (let off = w.if-len-from.false in omega (arith, w.len.ensures, past, w.from.ensures, off))))
]

pub returns : goal.returns
returns c =
    let l = c.loop-row in
    let e : l.row ≡ length c.args.rows.now = omega (arith, c.loop-row-test.false, c.loop-row.auto.row-end) in
    subst (λ n. IsFault1 c.args.rows.now n EndOfTape) e (at_end l.invariant e)

pub take-requires : goal.take-requires
take-requires c = number_fits (rw c.in-Some.is at c.loop-row.invariant)

pub word_of-requires : goal.word_of-requires
word_of-requires c = number_fits (rw c.in-Some.is at c.loop-row.invariant)
