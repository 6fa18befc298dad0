use Rattle.ed_command.proofs.Kit.{Command, ap, true, ◌∙◌}
use Rattle.clap.specs.Simple.{app_of_fields, on_top}
use Rattle.clap.specs.declared.builder.command.Command.TheOpen.{Command-F}
use Rattle.ed_command.specs.Rules.{bare}
use Rattle.ed_command.proofs.matching.bare_command.Goals as goal

pub returns : goal.returns
returns c =
    let fields = c.disable_version_flag.ensures
    ∙ ap (λ (f : Command-F Command). record f { disable_version_flag = true }) (c.disable_help_flag.ensures
    ∙ ap (λ (f : Command-F Command). record f { disable_help_flag = true }) c.no_binary_name.ensures) in
    ap app_of_fields fields ∙ ap (on_top bare) c.new.ensures.app
