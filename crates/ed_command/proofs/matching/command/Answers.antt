use Rattle.ed_command.proofs.Kit.{App, fold, ap, ◌≡◌, with_option}
use Rattle.std.proofs.lemmas.Result.{IfOk-weaker}
use Rattle.ed_command.specs.Words.{option_names}
use Rattle.ed_command.proofs.Adding.{one_added, option_made, words_added}
use Rattle.ed_command.proofs.matching.command.Goals as goal

pub loop-name-init : goal.loop-name-init
loop-name-init c = ap (λ (a : App). fold with_option a option_names) c.bare_command-command.ensures

pub loop-name-preserved : goal.loop-name-preserved
loop-name-preserved c =
    let kept = c.kept_argument in
    let made = option_made _ kept.result kept.ensures.rule kept.ensures.local c.long.ensures in
    one_added _ _ _ c.loop-name.command c.in_ok-command.command c.long.result c.loop-name-test.true
    c.in_ok-command.ensures made.1 made.0 c.loop-name.invariant

pub returns : goal.returns
returns c =
    let kept = c.kept_argument-2.ensures in
    IfOk-weaker c.arg-2.result _ _ (λ whole adds. words_added _ _ _ whole _ c.loop-name-test.false
    c.loop-name.invariant kept.local kept.rule adds) c.arg-2.ensures
