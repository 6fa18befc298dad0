use Rattle.ed_command.proofs.Kit.{number_within, ap, None, sym, ◌∙◌}
use Rattle.ed_command.proofs.Arguments.{alone_by, demo_by, demo_of_many, demo_of_none, not_alone}
use Rattle.ed_command.proofs.lines.action_by.Goals as goal

pub returns-in-Alone-empty : goal.returns-in-Alone-empty
returns-in-Alone-empty c =
    sym (alone_by _ _ _ c.in-Alone-empty.is-0 c.in-Alone-empty.len_below)

pub returns-in_err-number_within-in-Demo-len1 : goal.returns-in_err-number_within-in-Demo-len1
returns-in_err-number_within-in-Demo-len1 c =
    c.from_residual-in_err-number_within-in-Demo-len1.ensures
    ∙ demo_by _ _ _ None c.in-Demo-len1.is-0 c.in-Demo-len1.len_at_least c.in-Demo-len1.len_below
    (c.in_err-number_within-in-Demo-len1.ensures.is ∙ ap (number_within 1 112) c.as_bytes.ensures.value)

pub returns-in_ok-number_within-in-Demo-len1 : goal.returns-in_ok-number_within-in-Demo-len1
returns-in_ok-number_within-in-Demo-len1 c =
    demo_by _ _ _ _ c.in-Demo-len1.is-0 c.in-Demo-len1.len_at_least c.in-Demo-len1.len_below
    (c.in_ok-number_within-in-Demo-len1.ensures.is ∙ ap (number_within 1 112) c.as_bytes.ensures.value)

pub returns-in_default : goal.returns-in_default
returns-in_default c =
    sym (not_alone _ _ _ c.in_default.is-0 c.in_default.len_at_least)

pub returns-in_default-2 : goal.returns-in_default-2
returns-in_default-2 c = sym (demo_of_none _ _ c.in_default.is-0 c.in_default.len_below)

pub returns-in_default-3 : goal.returns-in_default-3
returns-in_default-3 c = sym (demo_of_many _ _ c.in_default.is-0 c.in_default.len_at_least)
