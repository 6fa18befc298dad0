use Rattle.ed_command.proofs.Kit.{ap₂, Option, ap, sym, ◌∙◌, options_in, command, settings_of, Action}
use Rattle.ed_command.proofs.Arguments.{command_found}
use Rattle.ed_command.proofs.lines.command_of.Goals as goal

pub returns-in_err-action_by : goal.returns-in_err-action_by
returns-in_err-action_by c =
    c.from_residual-in_err-action_by.ensures
    ∙ ap (λ (a : Option Action). command a (settings_of (options_in c.args.options.now))) c.in_err-action_by.ensures
    ∙ sym (command_found _ _ c.in_ok-line.line _ c.in-len1-up.len_at_least c.in_ok-line.ensures
    (sym c.has_only.ensures ∙ c.if-not-has_only.false))

pub returns-in_err-settings : goal.returns-in_err-settings
returns-in_err-settings c =
    c.from_residual-in_err-settings.ensures ∙ ap₂ command c.in_ok-action_by.ensures c.in_err-settings.ensures
    ∙ sym (command_found _ _ c.in_ok-line.line _ c.in-len1-up.len_at_least c.in_ok-line.ensures
    (sym c.has_only.ensures ∙ c.if-not-has_only.false))

pub returns : goal.returns
returns c =
    ap₂ command c.in_ok-action_by.ensures c.in_ok-settings.ensures
    ∙ sym (command_found _ _ c.in_ok-line.line _ c.in-len1-up.len_at_least c.in_ok-line.ensures
    (sym c.has_only.ensures ∙ c.if-not-has_only.false))
