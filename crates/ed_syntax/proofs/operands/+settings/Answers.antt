use Rattle.ed_syntax.proofs.Kit.{[], ap, arith, List, map, None, Option, rules, Some, sym, ◌-◌, ◌∙◌, ◌∷◌, ◌≡◌}
use Rattle.ed_syntax.proofs.Kit.{common_steps, err_from_is_err_and, array, sign, form_result, part, Ranged, ranged_map}
use Rattle.ed_syntax.proofs.Kit.{settings, is_second, Setting}
use Rattle.ed_syntax.specs.Reading.Grammar.{and_more, setting}
use Rattle.ed_syntax.proofs.Settings.{none_left, no_setting, not_read, one_setting, fault_after, setting_before}
use Rattle.ed_syntax.proofs.operands.+settings.Goals as goal

pub returns-then-most-eq0-clause-is : goal.returns-then-most-eq0-clause-is
returns-then-most-eq0-clause-is t c =
    ap (λ (o : Option (Ranged (List Setting))). form_result (ranged_map array o))
    (sym (none_left (is_second c.args.version) c.args.most (map part c.args.parts.now) c.if-most-eq0.true))

pub returns-in-None-clause-is : goal.returns-in-None-clause-is
returns-in-None-clause-is t c =
    let front : setting (is_second c.args.version) (map part c.args.parts.now) ≡ None = search rules in
    ap (λ (o : Option (Ranged (List Setting))). form_result (ranged_map array o))
    (sym (no_setting _ c.args.most _ (omega arith) front))

pub returns-in-None-split_first-clause-is : goal.returns-in-None-split_first-clause-is
returns-in-None-split_first-clause-is t c =
    let front : setting (is_second c.args.version) (map part c.args.parts.now)
    ≡ Some (c.in-Some.setting, map part c.in-Some.after.now) = search rules in
    let none : c.in-Some.after.now ≡ [] = grind (arith, common_steps) in
    c.both.ensures.is ∙ rw c.new.ensures (one_setting _ c.args.most
    _ c.in-Some.setting (omega arith) (rw none at front))

pub returns-in_err-more-in-Some-Sign-eq44-default-clause-is : goal.returns-in_err-more-in-Some-Sign-eq44-default-clause-is
returns-in_err-more-in-Some-Sign-eq44-default-clause-is t c =
    let p = err_from_is_err_and c.from_residual.result c.from_residual.ensures.1 in
    let rest = map part c.in-Some-Sign-eq44-default.rest.now in
    let front : setting (is_second c.args.version) (map part c.args.parts.now)
    ≡ Some (c.in-Some.setting, sign 44 ∷ rest) =
    search rules in
    rw (p.1, p.2) (fault_after _ c.args.most _ rest c.in-Some.setting _
    (omega arith) front c.in_err-more-in-Some-Sign-eq44-default.ensures.is)

pub returns-in_ok-more-in-Some-Sign-eq44-default-clause-is : goal.returns-in_ok-more-in-Some-Sign-eq44-default-clause-is
returns-in_ok-more-in-Some-Sign-eq44-default-clause-is t c =
    let rest = map part c.in-Some-Sign-eq44-default.rest.now in
    let front : setting (is_second c.args.version) (map part c.args.parts.now)
    ≡ Some (c.in-Some.setting, sign 44 ∷ rest) =
    search rules in
    c.both-in-Some-Sign-eq44-default.ensures.is ∙ setting_before _ c.args.most _ rest
    c.in-Some.setting _ (omega arith) front c.in_ok-more-in-Some-Sign-eq44-default.ensures.is

pub returns-in_default-clause-is : goal.returns-in_default-clause-is
returns-in_default-clause-is t c =
    let two = is_second c.args.version in
    let rest = map part c.in-Some.after.now in
    let front : setting two (map part c.args.parts.now) ≡ Some (c.in-Some.setting, rest) = search rules in
    let stop : and_more c.in-Some.setting rest (settings two (c.args.most - 1)) ≡ None = grind (arith, common_steps) in
    not_read two c.args.most (map part c.args.parts.now) rest c.in-Some.setting (omega arith) front stop
