use Rattle.ed_command.proofs.Kit.{option_map, common_steps, ap, arith, None, Some, sym, ◌∙◌, options_in, window_named}
use Rattle.ed_command.proofs.Named.{given_once, no_post_mortem, too_many}
use Rattle.ed_command.proofs.options.Options.settings.Goals as goal

pub returns-in_err-window_named-in-len1 : goal.returns-in_err-window_named-in-len1
returns-in_err-window_named-in-len1 c =
    let o = options_in c.args.self.now in
    let refused = sym c.window_named.ensures ∙ c.in_err-window_named-in-len1.was in
    c.from_residual-in_err-window_named-in-len1.ensures
    ∙ sym (no_post_mortem o _ (sym c.in_ok-size.was ∙ c.size.ensures)
    (given_once None (λ text. option_map Some (window_named c.in_ok-size.size text)) _ _
    c.in-len1.len_at_least c.in-len1.len_below ∙ ap (option_map Some) refused))

pub returns-in_default : goal.returns-in_default
returns-in_default c =
    sym (no_post_mortem (options_in c.args.self.now) _ (sym c.in_ok-size.was ∙ c.size.ensures)
    (too_many None _ (λ v. v.now) _ c.in_default.len_at_least))

pub returns : goal.returns
returns c = grind (arith, common_steps)
