use Rattle.ed_syntax.proofs.Kit.{codes, drop, ◌++◌, ◌≡◌, settings_after}
use Rattle.ed_writer.proofs.operands.push_settings.Given as goal

-- the text so far and that of the settings that are left
abbrev pub invariant-loop-setting : goal.invariant-loop-setting
invariant-loop-setting l = l.text.items ++ settings_after l.before (drop l.setting-index l.settings)
    ≡ l.initial.text.items ++ settings_after (codes " with ") l.settings
