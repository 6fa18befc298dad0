use Rattle.ed_syntax.proofs.Kit.{sym, rules, arith, common_steps}
use Rattle.ed_syntax.proofs.NameLemmas.{IfNone-named, place_name_text}
use Rattle.ed_syntax.proofs.terms.place_name.Goals as goal

pub unreachable-requires : goal.unreachable-requires
unreachable-requires c =
    let text = place_name_text _ c.args.run.now (sym c.if-not-is_place_name.ensures) in
    (c.in-Err.ensures.cases).0 text.utf8

pub returns-then-not-is_place_name : goal.returns-then-not-is_place_name
returns-then-not-is_place_name c = record { none = sym c.if-not-is_place_name.ensures; some = tt }

pub returns-clause-none : goal.returns-clause-none
returns-clause-none c = search (rules, IfNone-named, place_name_text)

pub returns-clause-some : goal.returns-clause-some
returns-clause-some c = grind (arith, common_steps)
