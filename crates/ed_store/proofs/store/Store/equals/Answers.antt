use Rattle.ed_store.proofs.Kit.{ap, sym, ◌∙◌, unpacked_cells}
use Rattle.ed_store.proofs.PackedLemmas.{unpacked_injective}
use Rattle.ed_store.proofs.store.Store.equals.Goals as goal

pub returns : goal.returns
returns c =
    let one = c.deref.ensures.value in
    let two = c.deref-2.ensures.value in
    let same = c.same_cells.ensures in (
      λ t. sym c.self.view_is ∙ ap unpacked_cells (sym one ∙ same.0 t ∙ two) ∙ c.other.view_is,
      λ e. same.1 (one ∙ unpacked_injective _ _ (c.self.view_is ∙ e ∙ sym c.other.view_is) ∙ sym two),
    )
