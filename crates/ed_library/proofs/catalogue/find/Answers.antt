use Rattle.std.proofs.Common.{◌≡◌, ◌<◌, ◌≤◌, ◌∙◌, ℕ, ap, sym, subst, true, false, List, Some}
use Rattle.std.specs.Str.{bytes_eq}
use Rattle.ed_library.specs.Entries.{entry}
use Rattle.ed_library.proofs.Found.{find_from-found, none_left, passed_over}
use Rattle.ed_library.proofs.catalogue.find.Goals as goal

pub routine-routine-requires : goal.routine-routine-requires
routine-routine-requires c =
    subst (λ (n : ℕ). c.loop-index.index < n) c.catalogue_size-index-end.ensures.is c.loop-index-test.true

pub loop-index-preserved : goal.loop-index-preserved
loop-index-preserved c =
    let text = c.args.name.now in
    let other : bytes_eq (entry c.loop-index.index).name text ≡ false =
    ap (λ (r : ℕ). bytes_eq (entry r).name text) (sym c.routine-routine.ensures)
    ∙ ap (λ (name : List ℕ). bytes_eq name text) (sym c.name.ensures) ∙ sym c.eq.ensures ∙ c.if-eq.false in
    sym (passed_over text c.loop-index.index
    (subst (λ (n : ℕ). c.loop-index.index < n) c.catalogue_size-index-end.ensures.is c.loop-index-test.true) other)
    ∙ c.loop-index.invariant

pub returns-then-eq : goal.returns-then-eq
returns-then-eq c =
    let text = c.args.name.now in
    let same : bytes_eq (entry c.loop-index.index).name text ≡ true =
    ap (λ (r : ℕ). bytes_eq (entry r).name text) (sym c.routine-routine.ensures)
    ∙ ap (λ (name : List ℕ). bytes_eq name text) (sym c.name.ensures) ∙ sym c.eq.ensures ∙ c.if-eq.true in
    ap Some c.routine-routine.ensures
    ∙ sym (find_from-found text c.loop-index.index
    (subst (λ (n : ℕ). c.loop-index.index < n) c.catalogue_size-index-end.ensures.is c.loop-index-test.true) same)
    ∙ c.loop-index.invariant

pub returns : goal.returns
returns c =
    sym (none_left c.args.name.now c.loop-index.index
    (subst (λ (n : ℕ). n ≤ c.loop-index.index) c.catalogue_size-index-end.ensures.is c.loop-index-test.false))
    ∙ c.loop-index.invariant
