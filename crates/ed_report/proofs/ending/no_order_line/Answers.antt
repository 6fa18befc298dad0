use Rattle.ed_report.proofs.Kit.{short_at, order_text, ap, ◌∙◌}
use Rattle.ed_report.proofs.Texts.{IfOk-told, no_order_wrote}
use Rattle.ed_report.proofs.ending.no_order_line.Goals as goal

pub returns : goal.returns
returns c =
    let machine = c.args.machine.now in
    let counter = c.counter-counter.ensures.is in
    let word = c.word.ensures.is ∙ ap (short_at machine.store) counter in
    let text = c.as_str-text.ensures.value ∙ c.order_text-order.ensures ∙ ap order_text word in
    IfOk-told _ _ _ _ (no_order_wrote machine _ _ _ counter c.orders_done-orders.ensures text)
    c.bytes_of_text.ensures c.format.ensures.ok
