use Rattle.ed_syntax.proofs.Kit.{ap, codes, refl, rules, sym, ◌++◌, ◌∙◌, err_from_is_err_and, Text}
use Rattle.std.proofs.Common.{append-nil}
use Rattle.ed_writer.proofs.Added.{both_added, in_any_case}
use Rattle.ed_writer.proofs.statements.push_statement.Goals as goal

pub returns-in-Text : goal.returns-in-Text
returns-in-Text c =
    rw c.in-Text.is (record { is = c.push_rows.ensures; few = in_any_case c.push_rows.result refl })

pub returns-in-Rows : goal.returns-in-Rows
returns-in-Rows c =
    rw c.in-Rows.is (record { is = c.push_rows-in-Rows.ensures; few = in_any_case c.push_rows-in-Rows.result refl })

pub returns-in-Order : goal.returns-in-Order
returns-in-Order c =
    rw c.in-Order.is (record { is = c.push_order.ensures; few = in_any_case c.push_order.result refl })

pub returns-in-Enter : goal.returns-in-Enter
returns-in-Enter c =
    rw c.in-Enter.is
    (record { is = c.push_named-in-Enter.ensures; few = in_any_case c.push_named-in-Enter.result refl })

pub returns-in-Number : goal.returns-in-Number
returns-in-Number c =
    let number = c.push_numbered-in-Number in
    rw c.in-Number.is (record {
      is = rw (c.from-in-Number.ensures ∙ c.value.ensures.is) at number.ensures;
      few = in_any_case number.result refl;
    })

pub returns-in-Long : goal.returns-in-Long
returns-in-Long c =
    let number = c.push_numbered-in-Long in
    rw c.in-Long.is (record {
      is = rw c.value-in-Long.ensures.is at number.ensures;
      few = in_any_case number.result refl;
    })

pub returns-in_err-push_named-in-Segment : goal.returns-in_err-push_named-in-Segment
returns-in_err-push_named-in-Segment c =
    let p = err_from_is_err_and c.from_residual.result c.from_residual.ensures.1 in
    rw p.1 (record { is = tt; few = tt })

pub returns-in_err-push_named-in-Fetch : goal.returns-in_err-push_named-in-Fetch
returns-in_err-push_named-in-Fetch c =
    let p = err_from_is_err_and c.from_residual-in_err-push_named-in-Fetch.result c.from_residual-in_err-push_named-in-Fetch.ensures.1 in
    rw p.1 (record { is = tt; few = tt })

pub returns-in_err-push_named-in-Fetch-2 : goal.returns-in_err-push_named-in-Fetch-2
returns-in_err-push_named-in-Fetch-2 c =
    let p = err_from_is_err_and c.from_residual-in_err-push_named-in-Fetch-2.result c.from_residual-in_err-push_named-in-Fetch-2.ensures.1 in
    rw p.1 (record { is = tt; few = tt })

pub returns-in-Some : goal.returns-in-Some
returns-in-Some c =
    let base = c.push_numbered in
    rw (c.in-Segment.is, c.in-Some.is) (record {
      is = both_added _ c.args.text.now.items _ _ c.push_named.new.text.items _ (rw c.from.ensures at base.ensures)
          c.in_ok-push_named-in-Segment.ensures;
      few = in_any_case base.result refl;
    })

pub returns-in-None : goal.returns-in-None
returns-in-None c =
    let text : Text → Text = λ (t : Text). c.args.text.now.items ++ (codes "segment " ++ t) in
    rw (c.in-Segment.is, c.in-None.is) (record {
      is = c.in_ok-push_named-in-Segment.ensures ∙ ap text (sym (append-nil c.in-Segment.name));
      few = refl;
    })

pub returns-in_ok-push_named-in-Fetch-2 : goal.returns-in_ok-push_named-in-Fetch-2
returns-in_ok-push_named-in-Fetch-2 c =
    let first = c.push_named-in-Fetch.new.text.items in
    let second = c.push_named-in-Fetch-2.new.text.items in
    let last = c.push_settings in
    rw c.in-Fetch.is (record {
      is = both_added _ c.args.text.now.items _ _ first _ (both_added _ first _ _ second _
          (rw c.deref.ensures.0 at last.ensures) c.in_ok-push_named-in-Fetch-2.ensures)
          c.in_ok-push_named-in-Fetch.ensures;
      few = in_any_case last.result (search rules);
    })
