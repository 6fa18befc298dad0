use Rattle.ed_link.proofs.Kit.{ap, arith, entry, find, List, ℕ, ◌∙◌}
use Rattle.std.proofs.lemmas.Grind.{common_steps}
use Rattle.std.proofs.lemmas.List.{take_all}
use Rattle.ed_link.proofs.Lengths.{placed_push, put_all_length, put_push}
use Rattle.ed_link.proofs.UseWords.{use_words}
use Rattle.ed_link.proofs.words.put_use.Goals as goal

pub put-requires : goal.put-requires
put-requires c = grind (arith, put_all_length)

pub loop-place-preserved : goal.loop-place-preserved
loop-place-preserved c = grind (arith, common_steps, placed_push, put_push)

pub returns : goal.returns
returns c =
    let all = take_all c.loop-place.place (entry c.in-Some.routine).items
    (rw (← c.length-place-end.ensures.is) c.loop-place-test.false) in
    use_words c.args.table.now.items c.args.symbols.now c.args.settings.now c.args.base
    (rw all at c.loop-place.invariant.0) c.parameters-parameters.ensures c.put_presets.ensures
    (c.in-Some.ensures ∙ ap (λ (x : List ℕ). find x) c.text.ensures.is)
