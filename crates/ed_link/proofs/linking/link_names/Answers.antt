use Rattle.ed_link.proofs.Kit.{ap, List, subst, sym, ◌∙◌, Line, IsLinked, any_enter, IsBuilt, IsFinished}
use Rattle.std.proofs.lemmas.Result.{IfOk-weaker}
use Rattle.ed_link.proofs.Bounds.{tape_few}
use Rattle.ed_link.proofs.FaultLaw.{line_fault, name_fault}
use Rattle.ed_link.proofs.Finished.{built_spelled, IsLinked-finished}
use Rattle.ed_link.proofs.Spellable.{all_spellable}
use Rattle.ed_link.proofs.linking.link_names.Goals as goal

pub finish-requires-clause-spellable : goal.finish-requires-clause-spellable
finish-requires-clause-spellable c =
    let enters = c.any_enter-has_enter.ensures ∙ ap (λ (x : List Line). any_enter x) c.deref.ensures.value in
    all_spellable c.in-Ok.built.items.items
    (built_spelled _ c.catalogue_size-ready.ensures.ready c.args.program.now.formed c.requires.symbols enters
    (sym c.requires.names ∙ c.in-None.is) c.if-has_enter.true
    (subst (λ (x : List Line). IsBuilt c.args.size c.args.symbols.now c.any_enter-has_enter.result x c.in-Ok.built)
    c.deref-2.ensures.value c.in-Ok.ensures))

pub finish-requires-clause-few : goal.finish-requires-clause-few
finish-requires-clause-few c =
    tape_few c.in-Ok.built.items.items c.in-Ok.built.after.items c.in-Ok.ensures.few_items c.in-Ok.ensures.few_rows

pub returns-then-has_enter-clause-linked : goal.returns-then-has_enter-clause-linked
returns-then-has_enter-clause-linked c =
    let enters = c.any_enter-has_enter.ensures ∙ ap (λ (x : List Line). any_enter x) c.deref.ensures.value in
    let lines = c.args.program.now.lines.items in
    let built = c.in-Ok.built in
    let is_built =
    subst (λ (x : List Line). IsBuilt c.args.size c.args.symbols.now c.any_enter-has_enter.result x built)
    c.deref-2.ensures.value c.in-Ok.ensures in
    IfOk-weaker c.finish.result (λ k. IsFinished c.args.symbols.now built k) (λ k. IsLinked c.args.size lines k)
    (λ k. IsLinked-finished _ c.catalogue_size-ready.ensures.ready c.args.program.now.numbered c.args.program.now.formed
    c.requires.symbols enters (sym c.requires.names ∙ c.in-None.is) c.if-has_enter.true is_built) c.finish.ensures.is

pub returns-in-Some-clause-fault : goal.returns-in-Some-clause-fault
returns-in-Some-clause-fault c =
    let enters = c.any_enter-has_enter.ensures ∙ ap (λ (x : List Line). any_enter x) c.deref.ensures.value in
    let built = subst (λ (x : List Line). IsBuilt c.args.size c.args.symbols.now c.any_enter-has_enter.result x
    c.in-Ok.built) c.deref-2.ensures.value c.in-Ok.ensures in
    name_fault c.args.size c.args.program.now.lines.items c.args.program.now.numbered c.requires.symbols enters
    c.in-Some.names (sym c.requires.names ∙ c.in-Some.is) built.accepted

pub returns-in-Err-clause-fault : goal.returns-in-Err-clause-fault
returns-in-Err-clause-fault c =
    let enters = c.any_enter-has_enter.ensures ∙ ap (λ (x : List Line). any_enter x) c.deref.ensures.value in
    line_fault c.args.size c.args.program.now.lines.items c.args.program.now.numbered c.requires.symbols enters
    c.in-Err.fault c.earlier_fault.result c.requires.names (rw (← c.deref-2.ensures.value) c.in-Err.ensures)
    c.earlier_fault.ensures
