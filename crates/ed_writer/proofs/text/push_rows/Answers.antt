use Rattle.ed_syntax.proofs.Kit.{ap, map, take, ◌++◌, ◌∙◌, ◌≡◌, take_all, Text, row_letter}
use Rattle.ed_writer.proofs.Added.{both_added, letter_added}
use Rattle.ed_writer.proofs.text.push_rows.Goals as goal

pub loop-row-preserved : goal.loop-row-preserved
loop-row-preserved c =
    let here = c.loop-row in
    let same = c.deref-row-items.ensures.0 in
    c.in_ok-push_letter.ensures
    ∙ letter_added c.push.new.text.items here.text.items c.args.rows.now.items here.row-index c.row-item.result
    (rw same at c.loop-row-test.true) (rw same at c.row-item.is) here.invariant

pub returns : goal.returns
returns c =
    let here = c.loop-row in
    let rows = c.args.rows.now.items in
    let mid = c.push.new.text.items in
    let all : take here.row-index rows ≡ rows =
    take_all here.row-index rows (rw c.deref-row-items.ensures.0 at c.loop-row-test.false) in
    both_added _ c.args.text.now.items c.args.before.now _ mid _
    (both_added _ mid _ _ here.text.items _ c.push-2.ensures
    (here.invariant ∙ ap (λ (rs : Text). mid ++ map row_letter rs) all)) c.in_ok-push.ensures
