use Rattle.ed_command.proofs.Kit.{ap₂, number, number_within, ap, sym, ◌∙◌, division}
use Rattle.ed_command.proofs.Arguments.{call_of-divided, many_numbers, name_alone, newline_alone, no_name}
use Rattle.ed_command.proofs.Arguments.{one_number_after, two_numbers}
use Rattle.ed_command.proofs.lines.call_of.Goals as goal

pub returns-in-newline : goal.returns-in-newline
returns-in-newline c =
    sym (newline_alone _ _ c.in-newline.len_at_least c.in-newline.len_below c.in-newline.is-newline)

pub returns-in_ok-number_within-in-len2 : goal.returns-in_ok-number_within-in-len2
returns-in_ok-number_within-in-len2 c =
    c.call_with.ensures ∙ sym (one_number_after _ _ _ c.in-len2.len_at_least c.in-len2.len_below
    (c.in_ok-number_within-in-len2.ensures.is ∙ ap (number_within 0 65535) c.as_bytes.ensures.value))

pub returns-in_err-number_within-in-len2 : goal.returns-in_err-number_within-in-len2
returns-in_err-number_within-in-len2 c =
    c.from_residual.ensures ∙ sym (one_number_after _ _ _ c.in-len2.len_at_least c.in-len2.len_below
    (c.in_err-number_within-in-len2.ensures.is ∙ ap (number_within 0 65535) c.as_bytes.ensures.value))

pub returns-in-divide : goal.returns-in-divide
returns-in-divide c =
    c.division.ensures
    ∙ ap₂ division (c.number.ensures ∙ ap number c.as_bytes-in-divide.ensures.value)
    (c.number_within-in-divide.ensures.is ∙ ap (number_within 1 32767) c.as_bytes-in-divide-2.ensures.value)
    ∙ sym (call_of-divided c.args.arguments.now _ c.in-divide.len_at_least c.in-divide.len_below c.in-divide.is-divide)

pub returns-in_default : goal.returns-in_default
returns-in_default c = sym (no_name c.args.arguments.now c.in_default.len_below)

pub returns-in_default-2 : goal.returns-in_default-2
returns-in_default-2 c =
    sym (name_alone _ _ c.in_default.len_at_least c.in_default.len_below c.in_default.if-str_eq-not-newline)

pub returns-in_default-3 : goal.returns-in_default-3
returns-in_default-3 c =
    sym (two_numbers _ _ c.in_default.len_at_least c.in_default.len_below c.in_default.if-str_eq-2-not-divide)

pub returns-in_default-4 : goal.returns-in_default-4
returns-in_default-4 c = sym (many_numbers c.args.arguments.now c.in_default.len_at_least)
