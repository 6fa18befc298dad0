use Rattle.ed_report.proofs.Kit.{string_bytes, order_text, ap, List, ℕ, ◌++◌, ◌∙◌, right}
use Rattle.std.specs.Fmt.{styled_decimal}
use Rattle.ed_report.proofs.Columns.{in_columns, line_wrote}
use Rattle.ed_report.proofs.lines.write_line.Goals as goal

pub returns : goal.returns
returns c =
    let word = c.short-word.ensures.is in
    let value = c.value-value.ensures.is ∙ word in
    let four = ap (λ s. styled_decimal s c.args.place) c.laid_out.ensures ∙ in_columns 4 c.args.place in
    let six = ap (λ s. styled_decimal s c.value-value.result) c.laid_out-2.ensures ∙ in_columns 6 c.value-value.result
    ∙ ap (right 6) value in
    let text = c.as_str-text.ensures.value ∙ c.order_text-order.ensures ∙ ap order_text word in
    c.in_ok-write.ensures.bytes
    ∙ ap (λ (t : List ℕ). string_bytes c.args.lines.now ++ t)
    (line_wrote c.args.store.now c.args.place _ _ _ four six text)
