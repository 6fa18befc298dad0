use Rattle.ed_top.proofs.Kit.{one_lines, no_text_line, ap, Err, inl, length, List, Ok, refl, sym, ℕ, ◌+◌, ◌∙◌, ◌≡◌}
use Rattle.ed_top.proofs.Kit.{Text, refusal, Input, on_rows, OnInput, OnText, StepOutcome}
use Rattle.ed_top.proofs.Made.{handed_on, line_replied, none_replied}
use Rattle.ed_top.proofs.Scripts.{divided_replied, text_replied}
use Rattle.ed_top.proofs.step.step.Goals as goal

pub returns-in_default : goal.returns-in_default
returns-in_default c =
    let s = c.args.settings in
    let input = c.args.input.now in
    let made = c.with_line.ensures in
    let undivided = c.in_default.ensures in
    let counted = c.line_count.ensures.is in
    let same : undivided.0 ≡ counted.0 = one_lines undivided.1.has_lines counted.1 in
    let count : length undivided.0 ≡ c.line_count.result = ap (λ (x : List Text). length x) same ∙ sym counted.2 in
    line_replied (StepOutcome s input) c.no_text-line.result _ c.with_line.result c.no_text-line.ensures made.line
    made.memory (inl (undivided.0, undivided.1, ap (λ (n : ℕ). refusal (no_text_line (n + 1))) count))

pub returns-in-Some-bad_line : goal.returns-in-Some-bad_line
returns-in-Some-bad_line c =
    let s = c.args.settings in
    let d = c.in-Some.divided in
    let i : Input = record { script = d.script.now; kind = d.kind; text = d.text.now } in
    let made = c.with_line-in-Some-bad_line.ensures in
    divided_replied s c.args.input.now i (Err c.with_line-in-Some-bad_line.result) c.in-Some.ensures
    (line_replied (OnInput s i) c.bad_command.result _ c.with_line-in-Some-bad_line.result c.bad_command.ensures
    made.line made.memory (inl (c.in-Some-bad_line.line, c.in-Some-bad_line.ensures.is, refl)))

pub returns-in_err-rows : goal.returns-in_err-rows
returns-in_err-rows c =
    let s = c.args.settings in
    let d = c.in-Some.divided in
    text_replied s c.args.input.now _ c.from_residual.result c.in-Some.ensures
    c.in_default-bad_line.ensures.is
    (λ commands is. handed_on (OnText s commands d.kind d.text.now) c.from_residual.result _
    (c.in_err-rows.ensures commands) c.from_residual.ensures)

pub returns-in_err-step_rows : goal.returns-in_err-step_rows
returns-in_err-step_rows c =
    let s = c.args.settings in
    let d = c.in-Some.divided in
    text_replied s c.args.input.now _ c.from_residual-in_err-step_rows.result c.in-Some.ensures
    c.in_default-bad_line.ensures.is
    (λ commands is. none_replied (OnText s commands d.kind d.text.now) c.from_residual-in_err-step_rows.result
    c.from_residual-in_err-step_rows.ensures
    (on_rows s commands c.in_ok-rows.rows.items, c.in_ok-rows.ensures commands))

pub returns : goal.returns
returns c =
    let s = c.args.settings in
    text_replied s c.args.input.now _ (Ok c.in_ok-step_rows.field-0) c.in-Some.ensures
    c.in_default-bad_line.ensures.is
    (λ commands is. (
      on_rows s commands c.in_ok-rows.rows.items,
      c.in_ok-rows.ensures commands,
      c.in_ok-step_rows.ensures commands is,
    ))
